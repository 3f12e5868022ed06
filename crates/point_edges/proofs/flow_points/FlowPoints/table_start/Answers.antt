use Rattle.std.proofs.Common.{◌≡◌, ap, ◌∙◌}
use Rattle.alternatives.specs.declared.point.Point.{Point}
use Rattle.flow_defs.specs.Coded.{Coded}
use Rattle.flow_defs.specs.Code.{alternatives_of, point_at, texts_of}
use Rattle.flow_defs.specs.Tables.{jump_table}
use Rattle.point_edges.specs.Tables.{table_start_of}
use Rattle.point_edges.proofs.flow_points.FlowPoints.table_start.Goals as goal

pub returns : goal.returns
unfolding table_start_of
returns c =
    let o : Coded = c.args.self.now in
    let point : c.point.result ≡ point_at o c.args.n = c.point.ensures ∙ ap (λ (e : Coded). point_at e c.args.n) c.places.ensures in
    c.start_of.ensures
    ∙ c.self.invariant.starts c.point.result
    ∙ ap (λ (e : Coded). jump_table e.elf (texts_of e) (alternatives_of e) c.point.result) c.self.view_is
    ∙ ap (λ (p : Point). jump_table o.elf (texts_of o) (alternatives_of o) p) point
