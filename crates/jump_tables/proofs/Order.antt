-- Places in their order.
use Rattle.std.proofs.Common.{◌≡◌, ℕ, ◌<◌, ◌≤◌, true, false, ◌&&◌, eqb, List, length, get_or, Option, Some, None, is_some, arith, refl, sym}
use Rattle.std.specs.List.{list_any}
use Rattle.std.specs.Ordering.{nat_cmp, is_lt, ordering_then}
use Rattle.std.proofs.lemmas.Bool.Decides.{nat_tests}
use Rattle.std.proofs.lemmas.List.Folds.{list_any_at}
use Rattle.ot_base.specs.declared.place.Place.{Place}
use Rattle.ot_base.specs.Places.{is_before, same_place}
use Rattle.jump_tables.specs.Kept.{AreByPlace, IsFirstOf}
use Rattle.jump_tables.proofs.Listed.{none_any}

-- where an index is that of no place
abbrev pub no_place : Place
no_place = record { sec = 0; off = 0 }

pub not_after : (a b c d e f : ℕ) → is_lt (ordering_then (nat_cmp e a) (nat_cmp f b)) ≡ false → is_lt (ordering_then (nat_cmp e c) (nat_cmp f d)) ≡ true → is_lt (ordering_then (nat_cmp a c) (nat_cmp b d)) ≡ true
not_after a b c d e f x y = grind (arith, nat_tests)

-- those before a place stand in front
pub parted : (places : List Place) (place : Place) → AreByPlace places → (i j : ℕ) (d : Place) → i ≤ j → j < length places → is_before (get_or places j d) place ≡ true → is_before (get_or places i d) place ≡ true
parted places place by i j d order inside h =
    not_after (get_or places i d).sec (get_or places i d).off place.sec place.off (get_or places j d).sec (get_or places j d).off (by i j d order inside) h

before_other : (a b c d : ℕ) → is_lt (ordering_then (nat_cmp c a) (nat_cmp d b)) ≡ true → (eqb a c && eqb b d) ≡ false
before_other a b c d x = grind (arith, nat_tests)

pub before_is_other : (place p : Place) → is_before p place ≡ true → same_place place p ≡ false
before_is_other place p h = before_other place.sec place.off p.sec p.off h

behind_other : (a b c d e f : ℕ) → is_lt (ordering_then (nat_cmp c a) (nat_cmp d b)) ≡ false → (eqb c a && eqb d b) ≡ false → is_lt (ordering_then (nat_cmp e c) (nat_cmp f d)) ≡ false → (eqb a e && eqb b f) ≡ false
behind_other a b c d e f x y z = grind (arith, nat_tests)

-- p is not before the place, and not it; q is not before p: q is not the place
pub behind_is_other : (place p q : Place) → is_before p place ≡ false → same_place p place ≡ false → is_before q p ≡ false → same_place place q ≡ false
behind_is_other place p q x y z = behind_other place.sec place.off p.sec p.off q.sec q.off x y z

same_sec : (a b c d : ℕ) → (eqb a c && eqb b d) ≡ true → a ≡ c
same_sec a b c d x = grind (arith, nat_tests)

same_off : (a b c d : ℕ) → (eqb a c && eqb b d) ≡ true → b ≡ d
same_off a b c d x = grind (arith, nat_tests)

place_of : (p : Place) (sec off : ℕ) → p.sec ≡ sec → p.off ≡ off → p ≡ record { sec = sec; off = off }
place_of p sec off e f = rw (← e, ← f) refl

pub same_is : (p q : Place) → same_place p q ≡ true → p ≡ q
same_is p q x = place_of p q.sec q.off (same_sec p.sec p.off q.sec q.off x) (same_off p.sec p.off q.sec q.off x)

both_same : (a b : ℕ) → (eqb a a && eqb b b) ≡ true
both_same a b = grind (arith, nat_tests)

pub is_same : (p q : Place) → q ≡ p → same_place p q ≡ true
is_same p q e = rw e (both_same p.sec p.off)

-- one of these is a place where a first one is
pub contains_is : (places : List Place) (place : Place) (found : Option ℕ) → IsFirstOf places place found → is_some found ≡ list_any (same_place place) places
contains_is places place None none = sym (none_any (same_place place) places no_place (λ k inside. none k no_place inside))
contains_is places place (Some i) first = sym (list_any_at (same_place place) places i no_place first.0 (is_same place (get_or places i no_place) (first.1 no_place)))
