use Rattle.std.proofs.Common.{◌+◌}
use Rattle.return_search.specs.Backward.{IsBackwardTo}
use Rattle.return_search.proofs.backward.Backward.add_point.Given as goal

abbrev pub invariant-edges : goal.invariant-edges
invariant-edges l = IsBackwardTo l.flow l.self (l.q + 1) l.number
