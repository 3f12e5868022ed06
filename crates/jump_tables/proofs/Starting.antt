-- The places where tables begin, sorted and each once.
use Rattle.std.proofs.Common.{◌≡◌, ℕ, zero, suc, ◌<◌, Bool, true, false, eqb, ◌&&◌, inl, inr, List, [], ◌∷◌, length, get_or, arith, refl, sym, ap}
use Rattle.std.specs.List.{AllByRecursion, dedup, list_any}
use Rattle.std.specs.List.Sorted.{IsPermutation, IsSorted, IsStrictlySortedBy}
use Rattle.std.specs.Cmp.{IsEquivalence}
use Rattle.std.specs.declared.cmp.Ordering.TheVariants.{Less}
use Rattle.std.specs.Ordering.{nat_cmp, is_eq, is_lt, ordering_then}
use Rattle.std.proofs.lemmas.Bool.{cases_lt}
use Rattle.std.proofs.lemmas.Bool.Decides.{nat_tests}
use Rattle.std.proofs.lemmas.List.Kept.{Contains-dedup, Contains-from_dedup, IsStrictlySortedBy-dedup}
use Rattle.std.proofs.lemmas.List.Sorted.{Contains-permutation, IsPermutation-sym}
use Rattle.std.proofs.lemmas.Map.Keys.{sorted_head, sorted_tail}
use Rattle.std.proofs.lemmas.Map.Views.{list_any-from_Contains, Contains-from_any}
use Rattle.ot_base.specs.declared.place.Place.{Place}
use Rattle.ot_base.specs.Places.{is_before, same_place, place_cmp}
use Rattle.jump_tables.specs.Kept.{AreByPlace, AreRising}
use Rattle.jump_tables.proofs.JumpOrder.{place_total}
use Rattle.jump_tables.proofs.Order.{same_is}

reflexive : (a b : ℕ) → (eqb a a && eqb b b) ≡ true
reflexive a b = grind (arith, nat_tests)

symmetric : (a b c d : ℕ) → (eqb a c && eqb b d) ≡ (eqb c a && eqb d b)
symmetric a b c d = grind (arith, nat_tests)

congruent : (a b c d e f : ℕ) → (eqb a c && eqb b d) ≡ true → (eqb a e && eqb b f) ≡ (eqb c e && eqb d f)
congruent a b c d e f x = grind (arith, nat_tests)

pub same_equiv : IsEquivalence same_place
same_equiv = record {
  refl = λ p. reflexive p.sec p.off;
  symm = λ p q. symmetric p.sec p.off q.sec q.off;
  congr = λ p q r. congruent p.sec p.off q.sec q.off r.sec r.off;
}

tied : (a b c d : ℕ) → (eqb a c && eqb b d) ≡ is_eq (ordering_then (nat_cmp a c) (nat_cmp b d))
tied a b c d = grind (arith, nat_tests)

all_at : (p : Place) (xs : List Place) → AllByRecursion (λ q. place_cmp p q ≡ Less) xs → (k : ℕ) (d : Place) → k < length xs → is_before p (get_or xs k d) ≡ true
all_at p [] all k d inside = absurd (omega arith)
all_at p (x ∷ xs) all zero d inside = ap is_lt all.0
all_at p (x ∷ xs) all (suc k) d inside = all_at p xs all.1 k d (omega arith)

strict : (xs : List Place) → IsStrictlySortedBy place_cmp xs → AreRising xs
strict [] up i j d lower inside = absurd (omega arith)
strict (x ∷ xs) up zero zero d lower inside = absurd (omega arith)
strict (x ∷ xs) up (suc i) zero d lower inside = absurd (omega arith)
strict (x ∷ xs) up zero (suc j) d lower inside = all_at x xs (sorted_head place_cmp x xs up) j d (omega arith)
strict (x ∷ xs) up (suc i) (suc j) d lower inside = strict xs (sorted_tail place_cmp x xs up) i j d (omega arith) (omega arith)

pub rising : (xs : List Place) → IsSorted place_cmp xs → AreRising (dedup same_place xs)
rising xs up = strict (dedup same_place xs) (IsStrictlySortedBy-dedup place_total (λ p q. tied p.sec p.off q.sec q.off) xs up)

either_way : (a b : Bool) → (a ≡ true → b ≡ true) → (b ≡ true → a ≡ true) → a ≡ b
either_way true b there back = sym (there refl)
either_way false true there back = back refl
either_way false false there back = refl

-- the same places are among them
pub same_among : (xs sorted : List Place) → IsPermutation xs sorted → (place : Place) → list_any (same_place place) (dedup same_place sorted) ≡ list_any (same_place place) xs
same_among xs sorted moved place =
    either_way _ _
    (λ any. list_any-from_Contains same_equiv place xs (Contains-permutation sorted xs place (IsPermutation-sym xs sorted moved) (Contains-from_dedup same_place sorted place (Contains-from_any same_is place (dedup same_place sorted) any))))
    (λ any. list_any-from_Contains same_equiv place (dedup same_place sorted) (Contains-dedup same_equiv same_is sorted place (Contains-permutation xs sorted place moved (Contains-from_any same_is place xs any))))

before_not_after : (a b c d : ℕ) → is_lt (ordering_then (nat_cmp a c) (nat_cmp b d)) ≡ true → is_lt (ordering_then (nat_cmp c a) (nat_cmp d b)) ≡ false
before_not_after a b c d x = grind (arith, nat_tests)

not_before_itself : (a b : ℕ) → is_lt (ordering_then (nat_cmp a a) (nat_cmp b b)) ≡ false
not_before_itself a b = grind (arith, nat_tests)

same_index : (xs : List Place) (i j : ℕ) (d : Place) → i ≡ j → is_before (get_or xs j d) (get_or xs i d) ≡ false
same_index xs i j d same = rw same (not_before_itself (get_or xs j d).sec (get_or xs j d).off)

pub by_place : (xs : List Place) → AreRising xs → AreByPlace xs
by_place xs up i j d order inside =
    elim (cases_lt i j) [
      | inl lower ↦ before_not_after (get_or xs i d).sec (get_or xs i d).off (get_or xs j d).sec (get_or xs j d).off (up i j d lower inside)
      | inr not_lower ↦ same_index xs i j d (omega arith)
    ]
