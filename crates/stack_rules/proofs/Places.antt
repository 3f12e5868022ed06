-- The order of places, and of points in a list.
use Rattle.std.proofs.Common.{◌≡◌, ℕ, ◌+◌, ◌<◌, ◌≤◌, true, false, not, List, All, length, get_or, inl, inr, arith, refl, ap, sym, ◌∙◌, subst}
use Rattle.std.specs.Ordering.{nat_cmp, is_lt, ordering_then}
use Rattle.std.specs.List.{AllPairs}
use Rattle.std.specs.List.Sorted.{IsPartitionedBy}
use Rattle.std.proofs.lemmas.Bool.{both_ways, cases_lt, cases_Bool, not-true}
use Rattle.std.proofs.lemmas.Bool.Decides.{nat_tests}
use Rattle.ot_base.specs.declared.place.Place.{Place}
use Rattle.ot_base.specs.Places.{is_before}
use Rattle.stack_rules.specs.Points.{ComesBefore, address_by_number}
use Rattle.machine_defs.specs.Program.{Program}
use Rattle.stack_rules.proofs.Order.{address_is, equal_places, first_of_places}
use Rattle.stack_rules.specs.Disagree.{ahead_of}

itself : (a b : ℕ) → is_lt (ordering_then (nat_cmp a a) (nat_cmp b b)) ≡ true → ⊥
itself a b h = grind (arith, nat_tests)

-- no place is before itself
pub not_before_itself : (a : Place) → is_before a a ≡ true → ⊥
not_before_itself a h = itself a.sec a.off h

-- nor before one that it is equal to
pub not_before_equal : (a b : Place) → a ≡ b → is_before a b ≡ true → ⊥
not_before_equal a b e h = not_before_itself b (subst (λ (z : Place). is_before z b ≡ true) e h)

pub equal_not_before : (a b : Place) → a ≡ b → is_before a b ≡ false
equal_not_before a b e = elim (cases_Bool (is_before a b)) [ inl h ↦ absurd (not_before_equal a b e h) | inr h ↦ h ]

both : (a b c d : ℕ) → is_lt (ordering_then (nat_cmp a c) (nat_cmp b d)) ≡ true → is_lt (ordering_then (nat_cmp c a) (nat_cmp d b)) ≡ true → ⊥
both a b c d h k = grind (arith, nat_tests)

-- of two places not each is before the other
pub not_both : (a b : Place) → is_before a b ≡ true → is_before b a ≡ true → ⊥
not_both a b h k = both a.sec a.off b.sec b.off h k

pub before_not_after : (a b : Place) → is_before a b ≡ true → is_before b a ≡ false
before_not_after a b h = elim (cases_Bool (is_before b a)) [ inl k ↦ absurd (not_both a b h k) | inr k ↦ k ]

through : (a b c d e f : ℕ) → is_lt (ordering_then (nat_cmp a c) (nat_cmp b d)) ≡ true → is_lt (ordering_then (nat_cmp c e) (nat_cmp d f)) ≡ true → is_lt (ordering_then (nat_cmp a e) (nat_cmp b f)) ≡ true
through a b c d e f h k = grind (arith, nat_tests)

pub before_through : (a b c : Place) → is_before a b ≡ true → is_before b c ≡ true → is_before a c ≡ true
before_through a b c h k = through a.sec a.off b.sec b.off c.sec c.off h k

lower_too : (a b c d e f : ℕ) → is_lt (ordering_then (nat_cmp a c) (nat_cmp b d)) ≡ false → is_lt (ordering_then (nat_cmp c e) (nat_cmp d f)) ≡ false → is_lt (ordering_then (nat_cmp a e) (nat_cmp b f)) ≡ false
lower_too a b c d e f h k = grind (arith, nat_tests)

-- a place that isn't before another, which isn't before a third, isn't before that
pub not_before_through : (a b c : Place) → is_before a b ≡ false → is_before b c ≡ false → is_before a c ≡ false
not_before_through a b c h k = lower_too a.sec a.off b.sec b.off c.sec c.off h k

before_too : (a b c d e f : ℕ) → is_lt (ordering_then (nat_cmp c a) (nat_cmp d b)) ≡ true → is_lt (ordering_then (nat_cmp c e) (nat_cmp d f)) ≡ false → is_lt (ordering_then (nat_cmp e a) (nat_cmp f b)) ≡ true
before_too a b c d e f h k = grind (arith, nat_tests)

-- what isn't behind a place that is before another is before that
pub before_by : (a b c : Place) → is_before b a ≡ true → is_before b c ≡ false → is_before c a ≡ true
before_by a b c h k = before_too a.sec a.off b.sec b.off c.sec c.off h k

-- of two places neither of which is before the other, they are one
pub neither_before : (a b : Place) → is_before a b ≡ false → is_before b a ≡ false → a ≡ b
neither_before a b h k = elim (first_of_places a b) [
  | inl l ↦ absurd (both_ways (is_before a b) h l)
  | inr m ↦ elim m [ inl l ↦ absurd (both_ways (is_before b a) k l) | inr e ↦ e ]
]

-- no byte behind a place it is that place
pub ahead_none : (a : Place) → a ≡ ahead_of a 0
ahead_none a = equal_places a (ahead_of a 0) refl (let off : a.off ≡ a.off + 0 = omega arith in off)

-- what comes before another runs no later
pub comes_no_later : (p : Program) (q r : ℕ) → ComesBefore p q r → is_before (p.address r) (p.address q) ≡ false
comes_no_later p q r (inl h) = before_not_after (p.address q) (p.address r) h
comes_no_later p q r (inr (e, l)) = equal_not_before (p.address r) (p.address q) (sym e)

module _ (p : Program) (points : List ℕ) (up : AllPairs (ComesBefore p) points) where
  -- a later element runs no earlier
  pub runs_no_later : (i j d : ℕ) → i ≤ j → j < length points → is_before (p.address (get_or points j d)) (p.address (get_or points i d)) ≡ false
  runs_no_later i j d order inside = elim (cases_lt i j) [
    | inl l ↦ comes_no_later p (get_or points i d) (get_or points j d) (up i j d l inside)
    | inr l ↦ let e : i ≡ j = omega arith in equal_not_before (p.address (get_or points j d)) (p.address (get_or points i d)) (ap (λ (k : ℕ). p.address (get_or points k d)) (sym e))
  ]

  module _ (known : All (λ q. q < p.count) points) where
    -- its address is found by its number
    pub found_at : (i d : ℕ) → i < length points → address_by_number p (get_or points i d) ≡ p.address (get_or points i d)
    found_at i d inside = address_is p (get_or points i d) (known i d inside)

    -- those that run at a place or before it stand in front
    pub up_to_parted : (place : Place) → IsPartitionedBy (λ (q : ℕ). not (is_before place (address_by_number p q))) points
    up_to_parted place i j d order inside h =
        let later : is_before place (p.address (get_or points j d)) ≡ false = ap (is_before place) (sym (found_at j d inside)) ∙ not-true (is_before place (address_by_number p (get_or points j d))) h in
        ap not (ap (is_before place) (found_at i d (omega arith)) ∙ not_before_through place (p.address (get_or points j d)) (p.address (get_or points i d)) later (runs_no_later i j d order inside))

    -- and those that run before it
    pub before_parted : (place : Place) → IsPartitionedBy (λ (q : ℕ). is_before (address_by_number p q) place) points
    before_parted place i j d order inside h =
        let later : is_before (p.address (get_or points j d)) place ≡ true = ap (λ (a : Place). is_before a place) (sym (found_at j d inside)) ∙ h in
        ap (λ (a : Place). is_before a place) (found_at i d (omega arith)) ∙ before_by place (p.address (get_or points j d)) (p.address (get_or points i d)) later (runs_no_later i j d order inside)
