use Rattle.object_check.specs.Allowances.{is_safe_name}
use Rattle.object_check.specs.Flags.{AreFlags}
use Rattle.object_check.proofs.names.list_safe_names.Given as goal

abbrev pub invariant-loop-sym : goal.invariant-loop-sym
invariant-loop-sym l = AreFlags (is_safe_name l.object l.lists) l.sym l.flags.items
