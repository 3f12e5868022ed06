-- The least number below a bound that passes, from what it is.
use Rattle.std.proofs.Common.{◌≡◌, inl, inr, ℕ, ◌+◌, ◌<◌, ◌≤◌, Bool, true, false, Option, Some, None, arith, refl, ap, sym}
use Rattle.std.proofs.lemmas.Bool.{cases_lt}
use Rattle.elf_objects.specs.Below.{least_below}
use Rattle.elf_objects.proofs.LeastBelow.{IsLeast, least_below-some, least_below-none, none-least_below}

apart : (x : Bool) → x ≡ true → x ≡ false → ⊥
apart true p q = cc
apart false p q = cc

no_less : (p : ℕ → Bool) (k j : ℕ) → p k ≡ true → ((i : ℕ) → i < j → p i ≡ false) → j ≤ k
no_less p k j passes lower = elim (cases_lt k j) [ inl before ↦ absurd (apart (p k) passes (lower k before)) | inr later ↦ later ]

same_least : (p : ℕ → Bool) (n k j : ℕ) → IsLeast p n k → j < n → p j ≡ true → ((i : ℕ) → i < j → p i ≡ false) → k ≡ j
same_least p n k j w inside passes lower =
    let a = no_less p k j w.passes lower in
    let b = no_less p j k passes w.lower in
    omega arith

by_found : (p : ℕ → Bool) (n j : ℕ) (found : Option ℕ) → least_below p n ≡ found → j < n → p j ≡ true → ((i : ℕ) → i < j → p i ≡ false) → found ≡ Some j
by_found p n j None e inside passes lower = absurd (apart (p j) passes (least_below-none p n e j inside))
by_found p n j (Some k) e inside passes lower = ap Some (same_least p n k j (least_below-some p n k e) inside passes lower)

-- it is the one that passes where each below fails
pub some-least_below : (p : ℕ → Bool) (n j : ℕ) → j < n → p j ≡ true → ((i : ℕ) → i < j → p i ≡ false) → least_below p n ≡ Some j
some-least_below p n j inside passes lower = by_found p n j (least_below p n) refl inside passes lower

-- the first number from k on, below n, that passes
abbrev pub IsFirstFrom : (ℕ → Bool) → ℕ → ℕ → Option ℕ → Type 0
IsFirstFrom p n k None = (j : ℕ) → k ≤ j → j < n → p j ≡ false
IsFirstFrom p n k (Some s) = (s < n) × (p s ≡ true) × ((j : ℕ) → k ≤ j → j < s → p j ≡ false)

pub first_from_passes : (p : ℕ → Bool) (n k : ℕ) → k < n → p k ≡ true → IsFirstFrom p n k (Some k)
first_from_passes p n k inside h = (inside, h, λ j a b. absurd (omega arith))

pub first_from_fails : (p : ℕ → Bool) (n k : ℕ) (found : Option ℕ) → p k ≡ false → IsFirstFrom p n (k + 1) found → IsFirstFrom p n k found
first_from_fails p n k None h w = λ j a b. elim (cases_lt k j) [
  | inl lt ↦ w j (omega arith) b
  | inr ge ↦ let e : j ≡ k = omega arith in rw e h
]
first_from_fails p n k (Some s) h w = (
  w.0,
  w.1,
  λ j a b. elim (cases_lt k j) [
    | inl lt ↦ w.2 j (omega arith) b
    | inr ge ↦ let e : j ≡ k = omega arith in rw e h
  ],
)

pub first_from_zero : (p : ℕ → Bool) (n : ℕ) (found : Option ℕ) → IsFirstFrom p n 0 found → found ≡ least_below p n
first_from_zero p n None w = sym (none-least_below p n (λ k h. w k (omega arith) h))
first_from_zero p n (Some s) w = sym (some-least_below p n s w.0 w.1 (λ j h. w.2 j (omega arith) h))
