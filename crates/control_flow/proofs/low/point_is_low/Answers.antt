use Rattle.std.proofs.Common.{◌≤◌, ap, ◌∙◌, subst}
use Rattle.flow_defs.specs.Coded.{Coded}
use Rattle.alternatives.specs.Texts.{text_bytes}
use Rattle.flow_defs.specs.Code.{texts_of}
use Rattle.object_points.specs.Linked.{IsLinked}
use Rattle.point_edges.proofs.Points.{low_point}
use Rattle.control_flow.proofs.low.point_is_low.Goals as goal

pub returns : goal.returns
returns c =
    let o : Coded = c.args.places.now in
    let all = c.texts.ensures.value ∙ ap texts_of c.linked.ensures in
    let lists = c.texts.ensures.linked.0 in
    low_point o lists c.args.n (subst (λ (e : Coded). IsLinked e lists) c.linked.ensures c.texts.ensures.linked.1) (subst (λ ts. text_bytes ts ≤ 16777216) all c.texts.ensures.little) c.requires
