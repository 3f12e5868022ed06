use Rattle.std.proofs.Common.{sym, ◌∙◌}
use Rattle.flow_defs.specs.Code.{point_at}
use Rattle.point_edges.proofs.Within.{within_point}
use Rattle.point_edges.proofs.into_functions.is_inner_call.Goals as goal

pub is_inner_point-requires-clause-known : goal.is_inner_point-requires-clause-known
is_inner_point-requires-clause-known c =
    within_point c.args.places.now (point_at c.args.places.now c.args.n) c.in-ToOwnPoint.point (sym c.requires.to ∙ c.in-ToOwnPoint.is)
