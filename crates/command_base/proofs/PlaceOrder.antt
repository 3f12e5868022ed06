-- The order of places.
use Rattle.std.proofs.Common.{◌≡◌, ◌⊎◌, ℕ, ◌<◌, Bool, true, false, ◌&&◌, eqb, arith, inl, inr, refl}
use Rattle.std.specs.Ordering.{nat_cmp, is_lt, ordering_then}
use Rattle.std.proofs.lemmas.Bool.Decides.{nat_tests}
use Rattle.ot_base.specs.declared.place.Place.{Place}
use Rattle.ot_base.specs.declared.warning.Warning.{Warning}
use Rattle.ot_base.specs.Places.{is_before, same_place}
use Rattle.stack_rules.specs.Before.{ComesBefore}

same_sec : (a b c d : ℕ) → (eqb a c && eqb b d) ≡ true → a ≡ c
same_sec a b c d h = grind (arith, nat_tests)

same_off : (a b c d : ℕ) → (eqb a c && eqb b d) ≡ true → b ≡ d
same_off a b c d h = grind (arith, nat_tests)

place_of : (p : Place) (sec off : ℕ) → p.sec ≡ sec → p.off ≡ off → p ≡ record { sec = sec; off = off }
place_of p sec off e f = rw (← e, ← f) refl

pub same_is : (p q : Place) → same_place p q ≡ true → p ≡ q
same_is p q h = place_of p q.sec q.off (same_sec p.sec p.off q.sec q.off h) (same_off p.sec p.off q.sec q.off h)

both_same : (a b : ℕ) → (eqb a a && eqb b b) ≡ true
both_same a b = grind (arith, nat_tests)

pub is_same : (p : Place) → same_place p p ≡ true
is_same p = both_same p.sec p.off

two_steps : (a b c d e f : ℕ) → is_lt (ordering_then (nat_cmp a c) (nat_cmp b d)) ≡ true → is_lt (ordering_then (nat_cmp c e) (nat_cmp d f)) ≡ true → is_lt (ordering_then (nat_cmp a e) (nat_cmp b f)) ≡ true
two_steps a b c d e f x y = grind (arith, nat_tests)

pub before_both : (p q r : Place) → is_before p q ≡ true → is_before q r ≡ true → is_before p r ≡ true
before_both p q r x y = two_steps p.sec p.off q.sec q.off r.sec r.off x y

other_numbers : (a b c d : ℕ) → is_lt (ordering_then (nat_cmp a c) (nat_cmp b d)) ≡ true → (eqb c a && eqb d b) ≡ false
other_numbers a b c d x = grind (arith, nat_tests)

other_before : (a b c d : ℕ) → is_lt (ordering_then (nat_cmp a c) (nat_cmp b d)) ≡ true → (eqb a c && eqb b d) ≡ false
other_before a b c d x = grind (arith, nat_tests)

pub before_is_other : (p q : Place) → is_before p q ≡ true → same_place p q ≡ false
before_is_other p q x = other_before p.sec p.off q.sec q.off x

pub behind_is_other : (p q : Place) → is_before p q ≡ true → same_place q p ≡ false
behind_is_other p q x = other_numbers p.sec p.off q.sec q.off x

neither_numbers : (a b c d : ℕ) → is_lt (ordering_then (nat_cmp a c) (nat_cmp b d)) ≡ false → (eqb a c && eqb b d) ≡ false → is_lt (ordering_then (nat_cmp c a) (nat_cmp d b)) ≡ true
neither_numbers a b c d x y = grind (arith, nat_tests)

-- of two places that differ one is before the other
pub is_behind : (p q : Place) → is_before p q ≡ false → same_place p q ≡ false → is_before q p ≡ true
is_behind p q x y = neither_numbers p.sec p.off q.sec q.off x y

turned : (a b c d : ℕ) → (eqb a c && eqb b d) ≡ false → (eqb c a && eqb d b) ≡ false
turned a b c d x = grind (arith, nat_tests)

pub other_way : (p q : Place) → same_place p q ≡ false → same_place q p ≡ false
other_way p q x = turned p.sec p.off q.sec q.off x

-- a later warning isn't before an earlier one
not_lower : (a b c d : ℕ) → (a < c) ⊎ ((a ≡ c) × ((b < d) ⊎ (b ≡ d))) → is_lt (ordering_then (nat_cmp c a) (nat_cmp d b)) ≡ false
not_lower a b c d h = grind (arith, nat_tests)

pub in_order : (v w : Warning) → ComesBefore v w → is_before w.place v.place ≡ false
in_order v w (inl lower) = not_lower v.place.sec v.place.off w.place.sec w.place.off (inl lower)
in_order v w (inr (e, inl lower)) = not_lower v.place.sec v.place.off w.place.sec w.place.off (inr (e, inl lower))
in_order v w (inr (e, inr (f, rest))) = not_lower v.place.sec v.place.off w.place.sec w.place.off (inr (e, inr f))
