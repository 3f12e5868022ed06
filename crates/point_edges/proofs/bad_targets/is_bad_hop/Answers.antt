use Rattle.std.proofs.Common.{sym, ◌∙◌}
use Rattle.flow_defs.specs.Code.{point_at}
use Rattle.point_edges.proofs.Within.{within_point}
use Rattle.point_edges.proofs.bad_targets.is_bad_hop.Goals as goal

pub leaves_owner-requires-clause-known : goal.leaves_owner-requires-clause-known
leaves_owner-requires-clause-known c =
    within_point c.args.places.now (point_at c.args.places.now c.args.n) c.in-ToOwnPoint.other (sym c.requires.to ∙ c.in-ToOwnPoint.is)
