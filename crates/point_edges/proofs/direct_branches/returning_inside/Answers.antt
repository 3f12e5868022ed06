use Rattle.std.proofs.Common.{sym, ap, ◌∙◌}
use Rattle.flow_defs.specs.Targets.{returning_inside}
use Rattle.point_edges.proofs.direct_branches.returning_inside.Goals as goal

pub returns-in-ToPlace : goal.returns-in-ToPlace
returns-in-ToPlace c = c.returning_inside_place.ensures c.in-ToPlace.weak ∙ ap (returning_inside c.args.points.now) (sym c.in-ToPlace.is)
