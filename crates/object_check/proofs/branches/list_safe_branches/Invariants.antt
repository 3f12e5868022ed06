use Rattle.flow_defs.specs.Code.{point_at}
use Rattle.object_check.specs.Allowances.{is_safe_branch}
use Rattle.object_check.specs.Flags.{AreFlags}
use Rattle.object_check.proofs.branches.list_safe_branches.Given as goal

abbrev pub invariant-loop-n : goal.invariant-loop-n
invariant-loop-n l = AreFlags (λ q. is_safe_branch l.places (point_at l.places q)) l.n l.flags.items
