use Rattle.std.proofs.Common.{◌∙◌}
use Rattle.flow_defs.specs.Coded.{Coded}
use Rattle.flow_defs.specs.Code.{point_at}
use Rattle.point_edges.proofs.Parts.{parts_in_site, or_first, or_second}
use Rattle.point_edges.proofs.target_edges.has_target_in_site.Goals as goal

pub returns-then-enters_unless_through : goal.returns-then-enters_unless_through
returns-then-enters_unless_through c =
    let o : Coded = c.args.points.now in
    or_first _ _ _ c.if-enters_unless_through.true c.enters_unless_through.ensures ∙ parts_in_site o (point_at o c.args.n)

pub returns-else-enters_unless_through : goal.returns-else-enters_unless_through
returns-else-enters_unless_through c =
    let o : Coded = c.args.points.now in
    or_second _ _ _ _ c.if-enters_unless_through.false c.enters_unless_through.ensures c.leads_into_site.ensures ∙ parts_in_site o (point_at o c.args.n)
