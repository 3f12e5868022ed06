use Rattle.flow_defs.specs.Code.{point_at}
use Rattle.object_check.specs.Allowances.{is_before_user_space}
use Rattle.object_check.specs.Flags.{AreFlags}
use Rattle.object_check.proofs.initial.list_before_user_space.Given as goal

abbrev pub invariant-loop-n : goal.invariant-loop-n
invariant-loop-n l = AreFlags (λ q. is_before_user_space l.places l.options (point_at l.places q)) l.n l.flags.items
