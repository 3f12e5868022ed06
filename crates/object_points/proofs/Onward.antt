-- Lists of the SAVEs and RESTOREs, on to a number up to which there are no more.
use Rattle.std.proofs.Common.{◌≡◌, ℕ, zero, suc, ◌+◌, ◌-◌, ◌<◌, ◌≤◌, Bool, true, false, eqb, ◌&&◌, ◌||◌, List, [], ◌∷◌, length, get_or, inl, inr, refl, sym, ◌∙◌, subst, arith}
use Rattle.std.specs.List.{list_any}
use Rattle.std.specs.Ordering.{nat_cmp, is_lt, ordering_then}
use Rattle.std.proofs.lemmas.Bool.{cases_Bool, cases_lt, false≢true}
use Rattle.std.proofs.lemmas.Bool.Decides.{nat_tests}
use Rattle.ot_base.specs.declared.place.Place.{Place}
use Rattle.ot_base.specs.Places.{same_place}
use Rattle.flow_defs.specs.Coded.{Coded}
use Rattle.flow_defs.specs.Arrival.{hint_of}
use Rattle.flow_defs.specs.Code.{point_at, points_of_object}
use Rattle.flow_defs.specs.Hints.{is_restore, is_save}
use Rattle.object_points.specs.Hinted.{is_either, AreListed, ArePlacesOf, HaveNoneBefore, HaveNoneUpTo}
use Rattle.object_points.specs.Places.{is_among, AreByPlace}
use Rattle.object_points.specs.declared.saves.SavePoint.{SavePoint}
use Rattle.object_points.proofs.Listing.{restore_same, save_same}

no_left : (a b : Bool) → (a || b) ≡ false → a ≡ false
no_left false b h = refl
no_left true b h = h

no_right : (a b : Bool) → (a || b) ≡ false → b ≡ false
no_right false b h = h
no_right true b h = absurd (false≢true (sym h))

-- whether the point with a number has one
abbrev pub either_at : Coded → ℕ → Bool
either_at o n = is_either (hint_of o (point_at o n))

module _ (o : Coded) (saves : List SavePoint) (restores : List ℕ) where
  one_on : (n : ℕ) → either_at o n ≡ false → AreListed o n saves restores → AreListed o (n + 1) saves restores
  one_on n neither listed = record {
    all_saves = save_same o n saves listed.all_saves (no_left (is_save (hint_of o (point_at o n))) (is_restore (hint_of o (point_at o n))) neither);
    all_restores = restore_same o n restores listed.all_restores (no_right (is_save (hint_of o (point_at o n))) (is_restore (hint_of o (point_at o n))) neither);
    few = omega (arith, listed.few);
  }

  some_on : (count from : ℕ) → ((n : ℕ) → from ≤ n → n < from + count → either_at o n ≡ false) → AreListed o from saves restores → AreListed o (from + count) saves restores
  some_on zero from none listed = let same : from ≡ from + zero = omega arith in subst (λ n. AreListed o n saves restores) same listed
  some_on (suc count) from none listed =
      let same : from + count + 1 ≡ from + suc count = omega arith in
      subst (λ n. AreListed o n saves restores) same
      (one_on (from + count) (none (from + count) (omega arith) (omega arith)) (some_on count from (λ n on below. none n on (omega arith)) listed))

  pub listed_on : (from to : ℕ) → from ≤ to → ((n : ℕ) → from ≤ n → n < to → either_at o n ≡ false) → AreListed o from saves restores → AreListed o to saves restores
  listed_on from to order none listed =
      let same : from + (to - from) ≡ to = omega arith in
      subst (λ n. AreListed o n saves restores) same (some_on (to - from) from (λ n on below. none n on (omega arith)) listed)

-- ---- by the places of hints
record HasIndex (p : Place → Bool) (places : List Place) : Type 0 where
  index : ℕ
  inside : index < length places
  passes : (d : Place) → p (get_or places index d) ≡ true

any_index : (p : Place → Bool) (places : List Place) → list_any p places ≡ true → HasIndex p places
any_index p [] h = absurd (false≢true h)
any_index p (x ∷ places) h =
    let go : (b : Bool) → p x ≡ b → (b || list_any p places) ≡ true → HasIndex p (x ∷ places) = λ b. elim b as (λ b. p x ≡ b → (b || list_any p places) ≡ true → HasIndex p (x ∷ places)) [
      | true ↦ λ is some. record { index = 0; inside = omega arith; passes = λ d. is }
      | false ↦ λ is some.
          let rest : HasIndex p places = any_index p places some in
          record { index = suc rest.index; inside = omega (arith, rest.inside); passes = rest.passes }
    ] in
    go (p x) refl h

place_known : (o : Coded) (places : List Place) (n : ℕ) → n < length (points_of_object o) → ArePlacesOf o places → either_at o n ≡ true → HasIndex (same_place (point_at o n).place) places
place_known o places n inside all either =
    let here : Place = (point_at o n).place in
    any_index (same_place here) places (elim (cases_Bool (is_among places here)) [
      | inl among ↦ among
      | inr other ↦ absurd (false≢true (sym (all n inside other) ∙ either))
    ])

same_not_before : (a b c d : ℕ) → (eqb a c && eqb b d) ≡ true → is_lt (ordering_then (nat_cmp c a) (nat_cmp d b)) ≡ false
same_not_before a b c d same = grind (arith, nat_tests)

same_before : (a b c d e f : ℕ) → (eqb a c && eqb b d) ≡ true → is_lt (ordering_then (nat_cmp a e) (nat_cmp b f)) ≡ true → is_lt (ordering_then (nat_cmp c e) (nat_cmp d f)) ≡ true
same_before a b c d e f same before = grind (arith, nat_tests)

-- Where no point from a number on has one at any of the places below an index, none before the place there has one.
pub none_before : (o : Coded) (places : List Place) (j from : ℕ) (e : Place) → AreByPlace places → ArePlacesOf o places → ((k : ℕ) (d : Place) → k < j → HaveNoneUpTo o from (get_or places k d)) → HaveNoneBefore o from (get_or places j e)
none_before o places j from e by all none n on inside before = elim (cases_Bool (either_at o n)) [
  | inr neither ↦ neither
  | inl either ↦
      let at = place_known o places n inside all either in
      let here : Place = (point_at o n).place in
      let there : Place = get_or places at.index e in
      let place : Place = get_or places j e in
      elim (cases_lt at.index j) [
        | inl lower ↦ none at.index e lower n on inside (same_not_before here.sec here.off there.sec there.off (at.passes e))
        | inr behind ↦ absurd (false≢true (sym (by j at.index e behind at.inside) ∙ same_before here.sec here.off there.sec there.off place.sec place.off (at.passes e) before))
      ]
]

-- behind all of them none has
pub none_behind : (o : Coded) (places : List Place) (from n : ℕ) → ArePlacesOf o places → ((k : ℕ) (d : Place) → k < length places → HaveNoneUpTo o from (get_or places k d)) → from ≤ n → n < length (points_of_object o) → either_at o n ≡ false
none_behind o places from n all none on inside = elim (cases_Bool (either_at o n)) [
  | inr neither ↦ neither
  | inl either ↦
      let at = place_known o places n inside all either in
      let here : Place = (point_at o n).place in
      let there : Place = get_or places at.index here in
      none at.index here at.inside n on inside (same_not_before here.sec here.off there.sec there.off (at.passes here))
]
