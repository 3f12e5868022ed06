-- The order of places.
use Rattle.std.proofs.Common.{◌≡◌, ℕ, ◌<◌, true, false, inl, inr, arith}
use Rattle.std.specs.Ordering.{nat_cmp, is_lt, ordering_then}
use Rattle.std.proofs.lemmas.Bool.{both_ways}
use Rattle.std.proofs.lemmas.Bool.Decides.{nat_tests}
use Rattle.ot_base.specs.declared.place.Place.{Place}
use Rattle.ot_base.specs.Places.{is_before}
use Rattle.table_defs.specs.Order.{ComesBefore}
use Rattle.stack_rules.proofs.Order.{first_of_places}

through : (a b c d e f : ℕ) → is_lt (ordering_then (nat_cmp a c) (nat_cmp b d)) ≡ true → is_lt (ordering_then (nat_cmp c e) (nat_cmp d f)) ≡ true → is_lt (ordering_then (nat_cmp a e) (nat_cmp b f)) ≡ true
through a b c d e f h k = grind (arith, nat_tests)

-- a place before one that is before another is before that one
pub before_through : (a b c : Place) → is_before a b ≡ true → is_before b c ≡ true → is_before a c ≡ true
before_through a b c h k = through a.sec a.off b.sec b.off c.sec c.off h k

itself : (a b : ℕ) → is_lt (ordering_then (nat_cmp a a) (nat_cmp b b)) ≡ true → ⊥
itself a b h = grind (arith, nat_tests)

-- no place is before itself
pub not_before_itself : (a : Place) → is_before a a ≡ true → ⊥
not_before_itself a h = itself a.sec a.off h

by_sec : (a b c d : ℕ) → a < c → is_lt (ordering_then (nat_cmp a c) (nat_cmp b d)) ≡ true
by_sec a b c d l = grind (arith, nat_tests)

by_off : (a b c d : ℕ) → a ≡ c → b < d → is_lt (ordering_then (nat_cmp a c) (nat_cmp b d)) ≡ true
by_off a b c d e l = grind (arith, nat_tests)

-- what comes before is before
pub before_from : (a b : Place) → ComesBefore a b → is_before a b ≡ true
before_from a b (inl l) = by_sec a.sec a.off b.sec b.off l
before_from a b (inr (e, l)) = by_off a.sec a.off b.sec b.off e l

-- of two places that differ, where one isn't before the other, that is before the one
pub other_before : (a b : Place) → is_before a b ≡ false → (b ≡ a → ⊥) → is_before b a ≡ true
other_before a b h differ = elim (first_of_places b a) [
  | inl k ↦ k
  | inr m ↦ elim m [ inl k ↦ absurd (both_ways (is_before a b) h k) | inr e ↦ absurd (differ e) ]
]
