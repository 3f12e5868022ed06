-- The order of places, and what a stable sort by it keeps.
use Rattle.std.proofs.Common.{◌≡◌, ℕ, Bool, true, false, cond, eqb, not, ◌&&◌, List, [], ◌∷◌, ◌++◌, find, filter, reverse, slice_get, Some, arith, refl, sym, ap, ◌∙◌, pos}
use Rattle.std.specs.Cmp.{IsTotalOrder}
use Rattle.std.specs.List.Sorted.{IsSortedByKey, IsStableByKey}
use Rattle.std.specs.Ordering.{nat_cmp, is_lt, ordering_then}
use Rattle.std.proofs.lemmas.Bool.Decides.{nat_tests}
use Rattle.std.proofs.lemmas.Cmp.{nat_cmp_total, on_total, then_total}
use Rattle.std.proofs.lemmas.List.{append-nil, reverse-append}
use Rattle.std.proofs.lemmas.List.Elements.{filter-append, filter_agree}
use Rattle.std.proofs.lemmas.List.MinMax.{ranks_by}
use Rattle.std.proofs.lemmas.List.Sorted.{sorted_far}
use Rattle.ot_base.specs.declared.place.Place.{Place}
use Rattle.ot_base.specs.Places.{is_before, place_cmp, same_place}
use Rattle.special_sections.specs.declared.entries.HintEntry.{HintEntry}
use Rattle.special_sections.specs.Places.{AreByPlace, HaveSameLast}

place_total : IsTotalOrder place_cmp
place_total = then_total (on_total (λ (p : Place). p.sec) nat_cmp_total) (on_total (λ (p : Place). p.off) nat_cmp_total)

pub sorted_by_place : (hints : List HintEntry) → IsSortedByKey (λ (h : HintEntry). h.place) place_cmp hints → AreByPlace hints
sorted_by_place hints up i j d order inside =
    sorted_far (λ (x y : HintEntry). is_lt (place_cmp x.place y.place)) (ranks_by place_total (λ (h : HintEntry). h.place)) hints up i j d order inside

-- two places that neither order tells apart are one
tied_is_place : (a b c d : ℕ) → not (is_lt (ordering_then (nat_cmp a c) (nat_cmp b d))) && not (is_lt (ordering_then (nat_cmp c a) (nat_cmp d b))) ≡ (eqb c a && eqb d b)
tied_is_place a b c d = grind (arith, nat_tests)

find_is_first : {X : Type 0} (p : X → Bool) (xs : List X) → find p xs ≡ slice_get (filter p xs) 0
find_is_first p [] = refl
find_is_first p (x ∷ xs) = elim (p x) as (λ b. cond b (Some x) (find p xs) ≡ slice_get (cond b (x ∷ filter p xs) (filter p xs)) 0) [ true ↦ refl | false ↦ find_is_first p xs ]

filter_reverse : {X : Type 0} (p : X → Bool) (xs : List X) → filter p (reverse xs) ≡ reverse (filter p xs)
filter_reverse p [] = refl
filter_reverse p (x ∷ xs) =
    ap (filter p) (reverse-append (x ∷ []) xs)
    ∙ filter-append p (reverse xs) (x ∷ [])
    ∙ ap (λ ys. ys ++ cond (p x) (x ∷ []) []) (filter_reverse p xs)
    ∙ elim (p x) as (λ b. reverse (filter p xs) ++ cond b (x ∷ []) [] ≡ reverse (cond b (x ∷ filter p xs) (filter p xs))) [
      | true ↦ sym (reverse-append (x ∷ []) (filter p xs))
      | false ↦ append-nil (reverse (filter p xs))
    ]

-- the last that passes is the last of those that pass
find_last : {X : Type 0} (p : X → Bool) (xs : List X) → find p (reverse xs) ≡ slice_get (reverse (filter p xs)) 0
find_last p xs = find_is_first p (reverse xs) ∙ ap (λ ys. slice_get ys 0) (filter_reverse p xs)

pub stable_keeps_last : (hints sorted : List HintEntry) → IsStableByKey (λ (h : HintEntry). h.place) place_cmp hints sorted → HaveSameLast hints sorted
stable_keeps_last hints sorted stable = record {
  same = λ place.
      let probe : HintEntry = record { place = place; sp_offset = pos 0; sp_reg = 0; kind = 0; signal = false } in
      let tied : HintEntry → Bool = λ h. not (is_lt (place_cmp place h.place)) && not (is_lt (place_cmp h.place place)) in
      let here : HintEntry → Bool = λ h. same_place h.place place in
      let agree : (h : HintEntry) → tied h ≡ here h = λ h. tied_is_place place.sec place.off h.place.sec h.place.off in
      find_last here sorted
      ∙ ap (λ hs. slice_get (reverse hs) 0) (sym (filter_agree tied here agree sorted) ∙ stable probe ∙ filter_agree tied here agree hints)
      ∙ sym (find_last here hints);
}

-- what is not behind a place has none behind it in front of it
up_to_all : (a b c d e f : ℕ) → is_lt (ordering_then (nat_cmp c a) (nat_cmp d b)) ≡ false → is_lt (ordering_then (nat_cmp e c) (nat_cmp f d)) ≡ false → is_lt (ordering_then (nat_cmp e a) (nat_cmp f b)) ≡ false
up_to_all a b c d e f not_before up_to = grind (arith, nat_tests)

pub up_to_in_front : (p q place : Place) → is_before q p ≡ false → is_before place q ≡ false → is_before place p ≡ false
up_to_in_front p q place not_before up_to = up_to_all p.sec p.off q.sec q.off place.sec place.off not_before up_to

not_here : (a b c d : ℕ) → is_lt (ordering_then (nat_cmp c a) (nat_cmp d b)) ≡ true → (eqb a c && eqb b d) ≡ false
not_here a b c d behind = grind (arith, nat_tests)

-- a place behind another is not that one
pub behind_is_other : (p place : Place) → is_before place p ≡ true → same_place p place ≡ false
behind_is_other p place behind = not_here p.sec p.off place.sec place.off behind

front_other : (a b c d e f : ℕ) → is_lt (ordering_then (nat_cmp e a) (nat_cmp f b)) ≡ false → is_lt (ordering_then (nat_cmp a c) (nat_cmp b d)) ≡ false → (eqb a e && eqb b f) ≡ false → (eqb c e && eqb d f) ≡ false
front_other a b c d e f up_to front other = grind (arith, nat_tests)

-- what is in front of one that is not behind a place, and is not that place, is not that place either
pub front_is_other : (p q place : Place) → is_before place p ≡ false → is_before p q ≡ false → same_place p place ≡ false → same_place q place ≡ false
front_is_other p q place up_to front other = front_other p.sec p.off q.sec q.off place.sec place.off up_to front other
