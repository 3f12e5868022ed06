-- The order of places.
use Rattle.std.proofs.Common.{◌≡◌, ℕ, ◌<◌, ◌≤◌, Bool, true, false, not, ◌&&◌, eqb, inl, inr, List, length, get_or, arith, refl}
use Rattle.std.specs.Cmp.{IsTotalOrder}
use Rattle.std.specs.List.Sorted.{IsSortedByKey}
use Rattle.std.specs.Ordering.{nat_cmp, is_lt, ordering_then}
use Rattle.std.proofs.lemmas.Bool.{cases_lt}
use Rattle.std.proofs.lemmas.List.{get_or_default}
use Rattle.std.proofs.lemmas.Bool.Decides.{nat_tests}
use Rattle.std.proofs.lemmas.Cmp.{nat_cmp_total, on_total, then_total}
use Rattle.std.proofs.lemmas.List.MinMax.{ranks_by}
use Rattle.std.proofs.lemmas.List.Sorted.{sorted_far}
use Rattle.ot_base.specs.declared.place.Place.{Place}
use Rattle.ot_base.specs.Places.{is_before, same_place}
use Rattle.symbols_relocs.specs.declared.function.Function.{Function}
use Rattle.symbols_relocs.specs.Lists.{no_function, function, AreByStart, AreRising}

place_total : IsTotalOrder (λ (p q : Place). ordering_then (nat_cmp p.sec q.sec) (nat_cmp p.off q.off))
place_total = then_total (on_total (λ (p : Place). p.sec) nat_cmp_total) (on_total (λ (p : Place). p.off) nat_cmp_total)

pub sorted_by_start : (fs : List Function) → IsSortedByKey (λ (f : Function). f.start) (λ (p q : Place). ordering_then (nat_cmp p.sec q.sec) (nat_cmp p.off q.off)) fs → AreByStart fs
sorted_by_start fs up i j order inside =
    sorted_far (λ (x y : Function). is_before x.start y.start) (ranks_by place_total (λ (f : Function). f.start)) fs up i j no_function order inside

trans : (a b c d e f : ℕ) → is_lt (ordering_then (nat_cmp a c) (nat_cmp b d)) ≡ true → is_lt (ordering_then (nat_cmp c e) (nat_cmp d f)) ≡ true → is_lt (ordering_then (nat_cmp a e) (nat_cmp b f)) ≡ true
trans a b c d e f x y = grind (arith, nat_tests)

pub before_before : (p q r : Place) → is_before p q ≡ true → is_before q r ≡ true → is_before p r ≡ true
before_before p q r x y = trans p.sec p.off q.sec q.off r.sec r.off x y

-- what is not behind one place and before another
not_after : (a b c d e f : ℕ) → is_lt (ordering_then (nat_cmp e a) (nat_cmp f b)) ≡ false → is_lt (ordering_then (nat_cmp e c) (nat_cmp f d)) ≡ true → is_lt (ordering_then (nat_cmp a c) (nat_cmp b d)) ≡ true
not_after a b c d e f x y = grind (arith, nat_tests)

-- p is not behind place, and q is: p is before q
pub between : (p q place : Place) → is_before place p ≡ false → is_before place q ≡ true → is_before p q ≡ true
between p q place x y = not_after p.sec p.off q.sec q.off place.sec place.off x y

asym : (a b c d : ℕ) → is_lt (ordering_then (nat_cmp a c) (nat_cmp b d)) ≡ true → is_lt (ordering_then (nat_cmp c a) (nat_cmp d b)) ≡ false
asym a b c d x = grind (arith, nat_tests)

pub before_not_behind : (p q : Place) → is_before p q ≡ true → is_before q p ≡ false
before_not_behind p q x = asym p.sec p.off q.sec q.off x

-- what is before p, where p is not behind a place, is not behind the place
front : (a b c d e f : ℕ) → is_lt (ordering_then (nat_cmp a c) (nat_cmp b d)) ≡ true → is_lt (ordering_then (nat_cmp e c) (nat_cmp f d)) ≡ false → is_lt (ordering_then (nat_cmp e a) (nat_cmp f b)) ≡ false
front a b c d e f x y = grind (arith, nat_tests)

pub in_front : (p q place : Place) → is_before p q ≡ true → is_before place q ≡ false → is_before place p ≡ false
in_front p q place x y = front p.sec p.off q.sec q.off place.sec place.off x y

other : (a b c d : ℕ) → is_lt (ordering_then (nat_cmp a c) (nat_cmp b d)) ≡ true → (eqb a c && eqb b d) ≡ false
other a b c d x = grind (arith, nat_tests)

pub before_is_other : (p q : Place) → is_before p q ≡ true → same_place p q ≡ false
before_is_other p q x = other p.sec p.off q.sec q.off x

other_behind : (a b c d : ℕ) → is_lt (ordering_then (nat_cmp c a) (nat_cmp d b)) ≡ true → (eqb a c && eqb b d) ≡ false
other_behind a b c d x = grind (arith, nat_tests)

pub behind_is_other : (p q : Place) → is_before q p ≡ true → same_place p q ≡ false
behind_is_other p q x = other_behind p.sec p.off q.sec q.off x

-- what is before p, where p is not behind a place, is another place
pub far_is_other : (p q place : Place) → is_before p q ≡ true → is_before place q ≡ false → same_place p place ≡ false
far_is_other p q place x y = far p.sec p.off q.sec q.off place.sec place.off x y
  where
    far : (a b c d e f : ℕ) → is_lt (ordering_then (nat_cmp a c) (nat_cmp b d)) ≡ true → is_lt (ordering_then (nat_cmp e c) (nat_cmp f d)) ≡ false → (eqb a e && eqb b f) ≡ false
    far a b c d e f x y = grind (arith, nat_tests)

-- a place that is not behind another, and not that one, is before it
ordered_other : (a b c d : ℕ) → is_lt (ordering_then (nat_cmp c a) (nat_cmp d b)) ≡ false → (eqb a c && eqb b d) ≡ false → is_lt (ordering_then (nat_cmp a c) (nat_cmp b d)) ≡ true
ordered_other a b c d x y = grind (arith, nat_tests)

pub not_behind_other : (p q : Place) → is_before q p ≡ false → same_place p q ≡ false → is_before p q ≡ true
not_behind_other p q x y = ordered_other p.sec p.off q.sec q.off x y

pub same_sec : (a b c d : ℕ) → (eqb a c && eqb b d) ≡ true → a ≡ c
same_sec a b c d x = grind (arith, nat_tests)

pub same_off : (a b c d : ℕ) → (eqb a c && eqb b d) ≡ true → b ≡ d
same_off a b c d x = grind (arith, nat_tests)

place_of : (p : Place) (sec off : ℕ) → p.sec ≡ sec → p.off ≡ off → p ≡ record { sec = sec; off = off }
place_of p sec off e f = rw (← e, ← f) refl

pub same_is : (p q : Place) → same_place p q ≡ true → p ≡ q
same_is p q x = place_of p q.sec q.off (same_sec p.sec p.off q.sec q.off x) (same_off p.sec p.off q.sec q.off x)

same_refl : (a b : ℕ) → (eqb a a && eqb b b) ≡ true
same_refl a b = grind (arith, nat_tests)

pub is_same : (p q : Place) → p ≡ q → same_place p q ≡ true
is_same p q e = rw e (same_refl q.sec q.off)

up_to : (a b c d e f : ℕ) → is_lt (ordering_then (nat_cmp a c) (nat_cmp b d)) ≡ true → is_lt (ordering_then (nat_cmp e c) (nat_cmp f d)) ≡ false → is_lt (ordering_then (nat_cmp a e) (nat_cmp b f)) ≡ true
up_to a b c d e f x y = grind (arith, nat_tests)

-- p is before q, and q is not behind r: p is before r
pub before_up_to : (p q r : Place) → is_before p q ≡ true → is_before r q ≡ false → is_before p r ≡ true
before_up_to p q r x y = up_to p.sec p.off q.sec q.off r.sec r.off x y

pub not_true : (b : Bool) → not b ≡ true → b ≡ false
not_true true h = cc
not_true false h = refl

pub not_false : (b : Bool) → not b ≡ false → b ≡ true
not_false true h = refl
not_false false h = cc

not_of : (b : Bool) → b ≡ false → not b ≡ true
not_of true h = cc
not_of false h = refl

-- those that start at a place or before it are in front of the others
pub rising_parts : (fs : List Function) (place : Place) → AreRising fs → (i j : ℕ) (d : Function) → i ≤ j → j < length fs → not (is_before place (get_or fs j d).start) ≡ true → not (is_before place (get_or fs i d).start) ≡ true
rising_parts fs place up i j d order inside h =
    let to : is_before place (function fs j).start ≡ false = rw (get_or_default fs j no_function d inside) (not_true _ h) in
    let i_in : i < length fs = omega arith in
    rw (get_or_default fs i d no_function i_in) (elim (cases_lt i j) [
      | inl lt ↦ not_of _ (in_front (function fs i).start (function fs j).start place (up i j lt inside) to)
      | inr ge ↦ let e : i ≡ j = omega arith in rw e (not_of _ to)
    ])
