use Rattle.std.proofs.Common.{◌≡◌, ◌∙◌, ap, sym, subst, true, Option, ℕ, List}
use Rattle.std.specs.Prelude.{IfSome}
use Rattle.std.proofs.lemmas.Bool.{eq-eqb, ne_eqb}
use Rattle.flow_defs.specs.Coded.{Coded}
use Rattle.alternatives.specs.declared.point.Point.{Point}
use Rattle.alternatives.specs.declared.texts.SectionText.{SectionText}
use Rattle.flow_defs.specs.Code.{is_plain, number_of, point_at, texts_of}
use Rattle.object_points.proofs.Points.{numbered_point}
use Rattle.control_flow.specs.Gapless.{EndsThere, IsLastBefore}
use Rattle.control_flow.proofs.RightBefore.{beside, last_before, none_before, replaced_none}
use Rattle.control_flow.proofs.preceding.previous.Goals as goal

pub returns-then-point-ne0 : goal.returns-then-point-ne0
returns-then-point-ne0 c =
    let o : Coded = c.args.places.now in
    sym (replaced_none o (point_at o c.args.n) (ne_eqb (point_at o c.args.n).variant 0 (λ plain. c.if-point-ne0.true (ap (λ (q : Point). q.variant) c.point-point.ensures ∙ plain))))

-- the search is among the texts of the object, from the place of the point
searched : (o own : Coded) (texts : List SectionText) (p q : Point) (last : Option ℕ) → own ≡ o → texts ≡ texts_of own → q ≡ p → IsLastBefore texts q.place last → IsLastBefore (texts_of o) p.place last
searched o own texts p q last same all is known =
    subst (λ (x : Point). IsLastBefore (texts_of o) x.place last) is (subst (λ (ts : List SectionText). IsLastBefore ts q.place last) (all ∙ ap texts_of same) known)

-- so is what ends there
near_is : (o own : Coded) (texts : List SectionText) (p q : Point) (near : Option ℕ) → own ≡ o → texts ≡ texts_of own → q ≡ p → IfSome near (EndsThere (texts_of o) p.place) → IfSome near (EndsThere texts q.place)
near_is o own texts p q near same all is known =
    subst (λ (x : Point). IfSome near (EndsThere texts x.place)) (sym is) (subst (λ (ts : List SectionText). IfSome near (EndsThere ts p.place)) (sym (all ∙ ap texts_of same)) known)

pub last_before-requires-clause-near : goal.last_before-requires-clause-near
last_before-requires-clause-near c =
    let o : Coded = c.args.places.now in
    near_is o c.linked.result.now c.texts.result.now (point_at o c.args.n) c.point-point.result c.neighbour-near.result c.linked.ensures c.texts.ensures.value c.point-point.ensures c.neighbour-near.ensures

pub returns-in_err-off : goal.returns-in_err-off
returns-in_err-off c =
    let o : Coded = c.args.places.now in
    let p : Point = point_at o c.args.n in
    let plain : is_plain p ≡ true = eq-eqb p.variant 0 (ap (λ (q : Point). q.variant) (sym c.point-point.ensures) ∙ c.if-point-ne0.false) in
    c.from_residual.ensures
    ∙ sym (none_before o p (numbered_point o c.args.n c.requires) plain c.last_before.result (searched o c.linked.result.now c.texts.result.now p c.point-point.result c.last_before.result c.linked.ensures c.texts.ensures.value c.point-point.ensures c.last_before.ensures) c.in_err-off.was)

pub returns : goal.returns
returns c =
    let o : Coded = c.args.places.now in
    let p : Point = point_at o c.args.n in
    let plain : is_plain p ≡ true = eq-eqb p.variant 0 (ap (λ (q : Point). q.variant) (sym c.point-point.ensures) ∙ c.if-point-ne0.false) in
    c.number_by_guess.ensures
    ∙ ap (λ (q : Point). number_of o (beside q.place c.in_ok-off.off)) c.point-point.ensures
    ∙ sym (last_before o p (numbered_point o c.args.n c.requires) plain c.last_before.result c.in_ok-off.off (searched o c.linked.result.now c.texts.result.now p c.point-point.result c.last_before.result c.linked.ensures c.texts.ensures.value c.point-point.ensures c.last_before.ensures) c.in_ok-off.was)
