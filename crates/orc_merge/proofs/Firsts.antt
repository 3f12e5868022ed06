-- The least number that passes a test.
use Rattle.std.proofs.Common.{◌≡◌, ◌≢◌, ℕ, zero, suc, ◌+◌, ◌<◌, Bool, true, false, cond, not, eqb, Option, Some, None, refl, ◌∙◌, ap, subst, inl, inr, add-one, arith}
use Rattle.std.specs.Option.{option_or}
use Rattle.std.proofs.lemmas.Bool.{cases_lt}
use Rattle.std.proofs.lemmas.Bool.Decides.{nat_tests}
use Rattle.orc_merge.specs.TableFaults.{first_below}

-- one more that fails
pub first_below-more : (p : ℕ → Bool) (n : ℕ) → first_below p n ≡ None → p n ≡ false → first_below p (n + 1) ≡ None
first_below-more p n none fails = ap (first_below p) (add-one n) ∙ ap (λ o. option_or o (cond (p n) (Some n) None)) none ∙ ap (λ b. cond b (Some n) None) fails

-- the first that passes is found
pub first_below-found : (p : ℕ → Bool) (m n : ℕ) → first_below p m ≡ None → p m ≡ true → m < n → first_below p n ≡ Some m
first_below-found p m zero none passes lt = absurd (omega arith)
first_below-found p m (suc n) none passes lt =
    elim (cases_lt m n) [
      | inl less ↦ ap (λ o. option_or o (cond (p n) (Some n) None)) (first_below-found p m n none passes less)
      | inr not_less ↦
          let same : n ≡ m = omega arith in
          ap (λ k. first_below p (suc k)) same ∙ ap (λ o. option_or o (cond (p m) (Some m) None)) none ∙ ap (λ b. cond b (Some m) None) passes
    ]

or_none : (o : Option ℕ) (b : Bool) (n : ℕ) → option_or o (cond b (Some n) None) ≡ None → (o ≡ None) × (b ≡ false)
or_none None true n h = absurd (let e : Some n ≡ None = h in cc)
or_none None false n h = (refl, refl)
or_none (Some k) b n h = absurd (let e : Some k ≡ None = h in cc)

-- none below the bound passes
pub first_below-none : (p : ℕ → Bool) (n k : ℕ) → first_below p n ≡ None → k < n → p k ≡ false
first_below-none p zero k h lt = absurd (omega arith)
first_below-none p (suc n) k h lt =
    let split = or_none (first_below p n) (p n) n h in
    elim (cases_lt k n) [
      | inl less ↦ first_below-none p n k split.0 less
      | inr not_less ↦ let same : n ≡ k = omega arith in subst (λ m. p m ≡ false) same split.1
    ]

pub first_below-all : (p : ℕ → Bool) (n : ℕ) → ((k : ℕ) → k < n → p k ≡ false) → first_below p n ≡ None
first_below-all p zero fails = refl
first_below-all p (suc n) fails =
    ap (λ o. option_or o (cond (p n) (Some n) None)) (first_below-all p n (λ k lt. fails k (omega arith)))
    ∙ ap (λ b. cond b (Some n) None) (fails n (omega arith))

-- two numbers as a test
pub is_equal : (a b : ℕ) → a ≡ b → not (eqb a b) ≡ false
is_equal a b h = grind (arith, nat_tests)

pub is_unequal : (a b : ℕ) → a ≢ b → not (eqb a b) ≡ true
is_unequal a b h = grind (arith, nat_tests)
