use Rattle.flow_defs.specs.Code.{point_at}
use Rattle.object_check.specs.Allowances.{lacks_smap}
use Rattle.object_check.specs.Flags.{AreFlags}
use Rattle.object_check.proofs.smap.list_lacking_smap.Given as goal

abbrev pub invariant-loop-n : goal.invariant-loop-n
invariant-loop-n l = AreFlags (λ q. lacks_smap l.places (point_at l.places q)) l.n l.flags.items
