use Rattle.std.proofs.Common.{◌≤◌, List, sym, subst}
use Rattle.flow_defs.specs.Coded.{Coded}
use Rattle.alternatives.specs.declared.texts.SectionText.{SectionText}
use Rattle.alternatives.specs.Numbers.{IsKept}
use Rattle.alternatives.specs.Texts.{text_bytes}
use Rattle.flow_defs.specs.Code.{alternatives_of, texts_of}
use Rattle.object_points.specs.Linked.{IsLinked}
use Rattle.point_arrivals.proofs.LowPlaces.{low_point}
use Rattle.point_arrivals.proofs.own_points.point.Goals as goal

pub returns-clause-low : goal.returns-clause-low
returns-clause-low c =
    let o : Coded = c.args.places.now in
    let here : text_bytes (texts_of c.linked.result.now) ≤ 16777216 = subst (λ (texts : List SectionText). text_bytes texts ≤ 16777216) c.texts.ensures.value c.texts.ensures.little in
    let little : text_bytes (texts_of o) ≤ 16777216 = subst (λ (e : Coded). text_bytes (texts_of e) ≤ 16777216) c.linked.ensures here in
    subst (IsKept (alternatives_of o)) (sym c.point.ensures) (low_point o c.texts.ensures.linked.0 c.args.n (subst (λ (e : Coded). IsLinked e c.texts.ensures.linked.0) c.linked.ensures c.texts.ensures.linked.1) little c.requires)
