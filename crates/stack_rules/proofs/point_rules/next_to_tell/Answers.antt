-- Where none is left, nothing is told up to the end.
use Rattle.std.proofs.Common.{arith}
use Rattle.stack_rules.proofs.point_rules.next_to_tell.Goals as goal

pub returns-else-n-points-clause-nothing : goal.returns-else-n-points-clause-nothing
returns-else-n-points-clause-nothing c p t k low high =
    c.skip_quiet-n.ensures.nothing p t k low (omega (arith, high, c.if-n-points.false, c.points.ensures.points))
