use Rattle.std.proofs.Common.{◌≡◌, ◌∙◌, subst, sym}
use Rattle.flow_defs.specs.Coded.{Coded}
use Rattle.point_edges.specs.Tables.{AreTablesOf}
use Rattle.point_edges.proofs.flow_points.FlowPoints.build.Goals as goal

pub invariant_of-result : goal.invariant_of-result
invariant_of-result c =
    let linked : c.linked.result.now ≡ c.in_ok-arrivals.arrivals = c.linked.ensures ∙ sym c.in_ok-arrivals.ensures in
    subst (λ (o : Coded). AreTablesOf o c.in_ok-tables.tables) linked c.in_ok-tables.ensures
