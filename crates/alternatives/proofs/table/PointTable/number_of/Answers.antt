use Rattle.std.proofs.Common.{rules, ◌≡◌, ℕ, List, Contains, Some, Equal, length, get_or, refl, sym, ap, ◌∙◌, subst}
use Rattle.std.specs.Prelude.{slice_get}
use Rattle.std.specs.List.Sorted.{IsStrictlySortedBy}
use Rattle.std.proofs.lemmas.List.Sorted.{answers_always}
use Rattle.alternatives.specs.declared.point.Point.{Point}
use Rattle.alternatives.specs.Points.{point_cmp}
use Rattle.std.proofs.lemmas.Option.{slice_get_read}
use Rattle.alternatives.proofs.Numbering.{never_found}
use Rattle.alternatives.proofs.PointOrder.{point_equal}
use Rattle.alternatives.proofs.table.PointTable.number_of.Goals as goal

pub returns-in-Err : goal.returns-in-Err
returns-in-Err c =
    let points : List Point = c.deref-2.result.now in
    let sorted : IsStrictlySortedBy point_cmp points = subst (IsStrictlySortedBy point_cmp) (sym c.deref-2.ensures.value) c.self.invariant.ascend in
    let same : points ≡ c.args.self.now.points = c.deref-2.ensures.value ∙ ap (λ t. t.points) c.self.view_is in
    λ at. never_found points c.args.point c.in-Err.field-0 sorted (c.in-Err.ensures.position (λ (p : Point). p) (answers_always _ _ _ (λ f a r g called. search rules))) (subst (λ ps. Contains ps c.args.point) (sym same) at)

pub returns-in-Some : goal.returns-in-Some
returns-in-Some c = subst (λ (ps : List Point). slice_get ps c.in-Some.n ≡ Some c.args.point) (c.deref.ensures.value ∙ ap (λ t. t.points) c.self.view_is) c.in-Some.ensures

pub returns-in-Ok : goal.returns-in-Ok
returns-in-Ok c =
    let points : List Point = c.deref-2.result.now in
    let same : points ≡ c.args.self.now.points = c.deref-2.ensures.value ∙ ap (λ t. t.points) c.self.view_is in
    let n : ℕ = c.in-Ok.n in
    let found : point_cmp (get_or points n c.args.point) c.args.point ≡ Equal = c.in-Ok.ensures.position (λ (p : Point). p) (answers_always _ _ _ (λ f a r g called. search rules)) c.args.point in
    let here : get_or points n c.args.point ≡ c.args.point = point_equal (get_or points n c.args.point) c.args.point found in
    subst (λ (ps : List Point). slice_get ps n ≡ Some c.args.point) same (slice_get_read points (length points) n c.args.point refl c.in-Ok.ensures.bound (sym here))
