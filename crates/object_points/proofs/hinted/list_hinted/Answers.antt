use Rattle.std.proofs.Common.{◌≡◌, ℕ, ◌<◌, List, length, inl, inr, sym, ap, ◌∙◌, subst, arith}
use Rattle.std.specs.Prelude.{slice_index_or}
use Rattle.std.proofs.lemmas.Bool.{cases_lt}
use Rattle.std.proofs.lemmas.List.{get_or_default}
use Rattle.ot_base.specs.declared.place.Place.{Place}
use Rattle.flow_defs.specs.Coded.{Coded}
use Rattle.flow_defs.specs.Code.{points_of_object}
use Rattle.object_points.specs.Hinted.{AreListed, ArePlacesOf, HaveNoneUpTo}
use Rattle.object_points.specs.Places.{AreByPlace}
use Rattle.object_points.proofs.Onward.{listed_on, none_before, none_behind}
use Rattle.object_points.proofs.hinted.list_hinted.Goals as goal

pub list_to-requires-clause-none : goal.list_to-requires-clause-none
list_to-requires-clause-none c =
    let o : Coded = c.args.places.now in
    let items : List Place = c.deref-place-items.result.now in
    let by : AreByPlace items = subst AreByPlace (sym c.deref-place-items.ensures.value) c.in_ok-hinted_places.ensures.ordered in
    let all : ArePlacesOf o items = subst (ArePlacesOf o) (sym c.deref-place-items.ensures.value) c.in_ok-hinted_places.ensures.all in
    none_before o items c.loop-place.place-index c.loop-place.next (record { sec = 0; off = 0 }) by all c.loop-place.invariant.none

pub loop-place-preserved : goal.loop-place-preserved
loop-place-preserved c =
    let o : Coded = c.args.places.now in
    let items : List Place = c.deref-place-items.result.now in
    let next : ℕ = c.in_ok-next.next in
    record {
      inside = c.in_ok-next.ensures.inside;
      few = omega arith;
      listed = c.in_ok-next.ensures.listed;
      none = λ k d less. elim (cases_lt k c.loop-place.place-index) [
        | inl lower ↦ λ n on inside. c.loop-place.invariant.none k d lower n (omega (arith, on, c.in_ok-next.ensures.onward)) inside
        | inr last ↦
            let same : c.loop-place.place-index ≡ k = omega arith in
            let place : Place = slice_index_or items c.loop-place.place-index (record { sec = 0; off = 0 }) in
            let here : place ≡ slice_index_or items k d = get_or_default items c.loop-place.place-index (record { sec = 0; off = 0 }) d c.loop-place-test.true ∙ ap (λ i. slice_index_or items i d) same in
            subst (HaveNoneUpTo o next) here c.in_ok-next.ensures.none
      ];
    }

module _ (c : goal.After-drop-hinted_places-2) where
  all_listed : AreListed c.args.places.now (length (points_of_object c.args.places.now)) c.loop-place.hinted.saves.items c.loop-place.hinted.restores.items
  all_listed =
      let o : Coded = c.args.places.now in
      let items : List Place = c.deref-place-items.result.now in
      let all : ArePlacesOf o items = subst (ArePlacesOf o) (sym c.deref-place-items.ensures.value) c.in_ok-hinted_places.ensures.all in
      let none : (k : ℕ) (d : Place) → k < length items → HaveNoneUpTo o c.loop-place.next (slice_index_or items k d) = λ k d inside. c.loop-place.invariant.none k d (omega (arith, c.loop-place-test.false, inside)) in
      listed_on o c.loop-place.hinted.saves.items c.loop-place.hinted.restores.items c.loop-place.next (length (points_of_object o)) c.loop-place.invariant.inside
      (λ n on inside. none_behind o items c.loop-place.next n all none on inside)
      c.loop-place.invariant.listed

pub returns-clause-saves : goal.returns-clause-saves
returns-clause-saves c = (all_listed c).all_saves

pub returns-clause-restores : goal.returns-clause-restores
returns-clause-restores c = (all_listed c).all_restores

pub returns-clause-few : goal.returns-clause-few
returns-clause-few c = omega (arith, c.loop-place.invariant.few, c.loop-place.invariant.listed.few)
