-- The order of places.
use Rattle.std.proofs.Common.{◌≡◌, ℕ, ◌+◌, ◌<◌, Bool, true, false, not, ◌&&◌, eqb, List, length, map, get_or, inl, inr, arith, sym, ap, ◌∙◌}
use Rattle.std.specs.Prelude.{Result, Ok, Err}
use Rattle.std.specs.Cmp.{IsTotalOrder}
use Rattle.std.specs.declared.cmp.Ordering.{Ordering}
use Rattle.std.specs.declared.cmp.Ordering.TheVariants.{Less, Equal, Greater}
use Rattle.std.specs.List.{list_any}
use Rattle.std.specs.List.Sorted.{IsBinarySearchResult, IsSearchInRange, IsPartitionedBy, IsSorted, IsSortedByKey, IsStableByKey}
use Rattle.std.specs.Ordering.{nat_cmp, is_lt, ordering_then}
use Rattle.std.specs.Result.{is_ok}
use Rattle.std.proofs.lemmas.Bool.{cases_lt}
use Rattle.std.proofs.lemmas.Bool.Decides.{nat_tests}
use Rattle.std.proofs.lemmas.Cmp.{nat_cmp_total, on_total, then_total}
use Rattle.std.proofs.lemmas.List.{get_or-map, length-map}
use Rattle.std.proofs.lemmas.List.Elements.{filter_agree, All-from_get_or}
use Rattle.std.proofs.lemmas.List.Folds.{list_any_at, list_any_none}
use Rattle.std.proofs.lemmas.List.MinMax.{ranks_by}
use Rattle.std.proofs.lemmas.List.Sorted.{searchable_from_sorted, sorted_far}
use Rattle.ot_base.specs.declared.place.Place.{Place}
use Rattle.ot_base.specs.Places.{is_before, same_place}
use Rattle.object_points.specs.Places.{AreByFirst, AreByPlace, HaveSameTargets}

abbrev pub place_cmp : Place → Place → Ordering
place_cmp p q = ordering_then (nat_cmp p.sec q.sec) (nat_cmp p.off q.off)

pub place_total : IsTotalOrder place_cmp
place_total = then_total (on_total (λ (p : Place). p.sec) nat_cmp_total) (on_total (λ (p : Place). p.off) nat_cmp_total)

pub no_place : Place
no_place = record { sec = 0; off = 0 }

-- what a sort says
pub by_place : (places : List Place) → IsSorted place_cmp places → AreByPlace places
by_place places up i j d order inside =
    sorted_far (λ (p q : Place). is_lt (place_cmp p q)) (ranks_by place_total (λ (p : Place). p)) places up i j d order inside

pub by_first : (pairs : List (Place × Place)) → IsSortedByKey (λ (e : Place × Place). e.0) place_cmp pairs → AreByFirst pairs
by_first pairs up i j d order inside =
    let first : Place × Place → Place = λ e. e.0 in
    let inside_pairs : j < length pairs = omega (arith, inside, length-map pairs first) in
    let far : is_before (get_or pairs j (d, d)).0 (get_or pairs i (d, d)).0 ≡ false =
    sorted_far (λ (x y : Place × Place). is_lt (place_cmp x.0 y.0)) (ranks_by place_total first) pairs up i j (d, d) order inside_pairs in
    ap (λ p. is_before p (get_or (map first pairs) i d)) (get_or-map first pairs j (d, d) d inside_pairs)
    ∙ ap (λ p. is_before (get_or pairs j (d, d)).0 p) (get_or-map first pairs i (d, d) d (omega (arith, inside_pairs)))
    ∙ far

tied_is_same : (a b c d : ℕ) → not (is_lt (ordering_then (nat_cmp a c) (nat_cmp b d))) && not (is_lt (ordering_then (nat_cmp c a) (nat_cmp d b))) ≡ (eqb c a && eqb d b)
tied_is_same a b c d = grind (arith, nat_tests)

-- a stable sort leaves where each place leads
pub stable_keeps : (pairs sorted : List (Place × Place)) → IsStableByKey (λ (e : Place × Place). e.0) place_cmp pairs sorted → HaveSameTargets pairs sorted
stable_keeps pairs sorted stable = record {
  same = λ place.
      let tied : Place × Place → Bool = λ e. not (is_lt (place_cmp place e.0)) && not (is_lt (place_cmp e.0 place)) in
      let here : Place × Place → Bool = λ e. same_place e.0 place in
      let agree : (e : Place × Place) → tied e ≡ here e = λ e. tied_is_same place.sec place.off e.0.sec e.0.off in
      ap (map (λ (e : Place × Place). e.1)) (sym (filter_agree tied here agree sorted) ∙ stable (place, place) ∙ filter_agree tied here agree pairs);
}

-- ---- halving
equal_parts : (a b c d : ℕ) → ordering_then (nat_cmp a c) (nat_cmp b d) ≡ Equal → (eqb c a && eqb d b) ≡ true
equal_parts a b c d equal = grind (arith, nat_tests)

less_parts : (a b c d : ℕ) → ordering_then (nat_cmp a c) (nat_cmp b d) ≡ Less → (eqb c a && eqb d b) ≡ false
less_parts a b c d less = grind (arith, nat_tests)

greater_parts : (a b c d : ℕ) → ordering_then (nat_cmp a c) (nat_cmp b d) ≡ Greater → (eqb c a && eqb d b) ≡ false
greater_parts a b c d greater = grind (arith, nat_tests)

pub searched : (places : List Place) (place : Place) (found : Result ℕ ℕ) → AreByPlace places → IsSearchInRange found (length places) → IsBinarySearchResult (λ p. place_cmp p place) places found → is_ok found ≡ list_any (same_place place) places
searched places place (Ok i) by range here =
    sym (list_any_at (same_place place) places i no_place range (equal_parts (get_or places i no_place).sec (get_or places i no_place).off place.sec place.off (here no_place)))
searched places place (Err i) by range here =
    let parts = here (searchable_from_sorted place_total (λ (p : Place). p) places place (λ k d from inside. by k (k + 1) d (omega arith) inside)) in
    sym (list_any_none (same_place place) places (All-from_get_or (λ p. same_place place p ≡ false) places no_place (λ k inside.
    let p : Place = get_or places k no_place in
    elim (cases_lt k i) [
      | inl lower ↦ less_parts p.sec p.off place.sec place.off (parts.0 k no_place (omega arith) lower)
      | inr behind ↦ greater_parts p.sec p.off place.sec place.off (parts.1 k no_place behind inside)
    ])))

-- ---- what is before a place stands in front
not_after : (a b c d e f : ℕ) → is_lt (ordering_then (nat_cmp e a) (nat_cmp f b)) ≡ false → is_lt (ordering_then (nat_cmp e c) (nat_cmp f d)) ≡ true → is_lt (ordering_then (nat_cmp a c) (nat_cmp b d)) ≡ true
not_after a b c d e f x y = grind (arith, nat_tests)

pub before_parted : (places : List Place) (place : Place) → AreByPlace places → IsPartitionedBy (λ (p : Place). is_before p place) places
before_parted places place by i j d order inside h =
    not_after (get_or places i d).sec (get_or places i d).off place.sec place.off (get_or places j d).sec (get_or places j d).off (by i j d order inside) h

still_upto : (a b c d e f : ℕ) → is_lt (ordering_then (nat_cmp e a) (nat_cmp f b)) ≡ false → not (is_lt (ordering_then (nat_cmp c e) (nat_cmp d f))) ≡ true → not (is_lt (ordering_then (nat_cmp c a) (nat_cmp d b))) ≡ true
still_upto a b c d e f x y = grind (arith, nat_tests)

pub upto_parted : (places : List Place) (place : Place) → AreByPlace places → IsPartitionedBy (λ (p : Place). not (is_before place p)) places
upto_parted places place by i j d order inside h =
    still_upto (get_or places i d).sec (get_or places i d).off place.sec place.off (get_or places j d).sec (get_or places j d).off (by i j d order inside) h

before_numbers : (a b c d : ℕ) → is_lt (ordering_then (nat_cmp a c) (nat_cmp b d)) ≡ true → (eqb a c && eqb b d) ≡ false
before_numbers a b c d before = grind (arith, nat_tests)

behind_numbers : (a b c d : ℕ) → is_lt (ordering_then (nat_cmp c a) (nat_cmp d b)) ≡ true → (eqb a c && eqb b d) ≡ false
behind_numbers a b c d behind = grind (arith, nat_tests)

neither_numbers : (a b c d : ℕ) → is_lt (ordering_then (nat_cmp a c) (nat_cmp b d)) ≡ false → is_lt (ordering_then (nat_cmp c a) (nat_cmp d b)) ≡ false → (eqb a c && eqb b d) ≡ true
neither_numbers a b c d x y = grind (arith, nat_tests)

pub before_is_other : (p place : Place) → is_before p place ≡ true → same_place p place ≡ false
before_is_other p place before = before_numbers p.sec p.off place.sec place.off before

pub behind_is_other : (p place : Place) → is_before place p ≡ true → same_place p place ≡ false
behind_is_other p place behind = behind_numbers p.sec p.off place.sec place.off behind

pub neither_is_same : (p place : Place) → is_before p place ≡ false → is_before place p ≡ false → same_place p place ≡ true
neither_is_same p place x y = neither_numbers p.sec p.off place.sec place.off x y

not_both : (a b c d : ℕ) → is_lt (ordering_then (nat_cmp a c) (nat_cmp b d)) ≡ true → is_lt (ordering_then (nat_cmp c a) (nat_cmp d b)) ≡ true → ⊥
not_both a b c d x y = grind (arith, nat_tests)

pub not_before_and_behind : (p place : Place) → is_before p place ≡ true → is_before place p ≡ true → ⊥
not_before_and_behind p place x y = not_both p.sec p.off place.sec place.off x y
