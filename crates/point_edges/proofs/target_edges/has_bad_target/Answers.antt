use Rattle.std.proofs.Common.{◌∙◌}
use Rattle.flow_defs.specs.Coded.{Coded}
use Rattle.flow_defs.specs.Code.{point_at}
use Rattle.point_edges.proofs.Parts.{bad_parts, or_first, or_second}
use Rattle.point_edges.proofs.target_edges.has_bad_target.Goals as goal

pub returns-then-is_bad_unless_through : goal.returns-then-is_bad_unless_through
returns-then-is_bad_unless_through c =
    let o : Coded = c.args.points.now in
    or_first _ _ _ c.if-is_bad_unless_through.true c.is_bad_unless_through.ensures ∙ bad_parts o (point_at o c.args.n)

pub returns-else-is_bad_unless_through : goal.returns-else-is_bad_unless_through
returns-else-is_bad_unless_through c =
    let o : Coded = c.args.points.now in
    or_second _ _ _ _ c.if-is_bad_unless_through.false c.is_bad_unless_through.ensures c.has_bad_entry.ensures ∙ bad_parts o (point_at o c.args.n)
