use Rattle.std.proofs.Common.{sym, ◌∙◌}
use Rattle.flow_defs.specs.Code.{point_at}
use Rattle.point_edges.proofs.Within.{within_point}
use Rattle.point_edges.proofs.call_roles.call_role.Goals as goal

pub call_within-requires-clause-known : goal.call_within-requires-clause-known
call_within-requires-clause-known c =
    within_point c.args.places.now (point_at c.args.places.now c.args.n) c.in-ToOwnPoint.point (sym c.requires.to ∙ c.in-ToOwnPoint.is)
