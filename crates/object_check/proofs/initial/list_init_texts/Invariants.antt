use Rattle.object_check.specs.Allowances.{is_init_text}
use Rattle.object_check.specs.Flags.{AreFlags}
use Rattle.object_check.proofs.initial.list_init_texts.Given as goal

abbrev pub invariant-loop-sec : goal.invariant-loop-sec
invariant-loop-sec l = AreFlags (is_init_text l.object) l.sec l.flags.items
