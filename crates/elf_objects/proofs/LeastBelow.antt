-- The least number below a bound that passes.
use Rattle.std.proofs.Common.{◌≡◌, ◌<◌, ◌+◌, ℕ, zero, suc, Bool, true, false, Option, Some, None, arith, refl, add-one, below_more, cond, ◌∙◌, sym}
use Rattle.elf_objects.specs.Below.{least_below, first_of}

-- one number more
pub least_below-suc : (p : ℕ → Bool) (n : ℕ) → least_below p (suc n) ≡ first_of (least_below p n) (cond (p n) (Some n) None)
unfolding least_below
least_below-suc p n = refl

pub least_below-more : (p : ℕ → Bool) (n : ℕ) → least_below p (n + 1) ≡ first_of (least_below p n) (cond (p n) (Some n) None)
least_below-more p n = rw (add-one) (least_below-suc p n)

pub least_below-zero : (p : ℕ → Bool) → least_below p 0 ≡ None
unfolding least_below
least_below-zero p = refl

pub least_below-none-go : (p : ℕ → Bool) (n : ℕ) (o : Option ℕ) (x : Bool) → (o ≡ None → (k : ℕ) → k < n → p k ≡ false) → p n ≡ x → first_of o (cond x (Some n) None) ≡ None → (k : ℕ) → k < n + 1 → p k ≡ false
least_below-none-go p n (Some j) x ih f g k h = cc
least_below-none-go p n None true ih f g k h = cc
least_below-none-go p n None false ih f g k h = below_more (λ j. p j ≡ false) n (ih refl) f k h

-- where there is none, each fails
pub least_below-none : (p : ℕ → Bool) (n : ℕ) → least_below p n ≡ None → (k : ℕ) → k < n → p k ≡ false
least_below-none p zero e k h = absurd (omega arith)
least_below-none p (suc n) e k h =
    least_below-none-go p n (least_below p n) (p n) (least_below-none p n) refl (sym (least_below-suc p n) ∙ e) k (omega arith)

-- where each fails, there is none
pub none-least_below : (p : ℕ → Bool) (n : ℕ) → ((k : ℕ) → k < n → p k ≡ false) → least_below p n ≡ None
none-least_below p zero h = least_below-zero p
none-least_below p (suc n) h =
    let ih = none-least_below p n (λ k lt. h k (omega arith)) in
    let here = h n (omega arith) in
    rw (least_below-suc p n, ih, here) refl

-- the least one passes, and each below it fails
pub record IsLeast (p : ℕ → Bool) (n k : ℕ) : Type 0 where
  pub below : k < n
  pub passes : p k ≡ true
  pub lower : (j : ℕ) → j < k → p j ≡ false

least_below-some-go : (p : ℕ → Bool) (n : ℕ) (o : Option ℕ) (x : Bool) (k : ℕ) → (o ≡ Some k → IsLeast p n k) → (o ≡ None → (j : ℕ) → j < n → p j ≡ false) → p n ≡ x → first_of o (cond x (Some n) None) ≡ Some k → IsLeast p (suc n) k
least_below-some-go p n (Some j) x k ih none f g = let l = ih g in record { below = omega arith; passes = l.passes; lower = l.lower }
least_below-some-go p n None true k ih none f g =
    let e : n ≡ k = cc in
    record { below = omega arith; passes = rw (← e) f; lower = λ j h. none refl j (omega arith) }
least_below-some-go p n None false k ih none f g = cc

pub least_below-some : (p : ℕ → Bool) (n k : ℕ) → least_below p n ≡ Some k → IsLeast p n k
least_below-some p zero k e = let z = least_below-zero p in cc
least_below-some p (suc n) k e =
    least_below-some-go p n (least_below p n) (p n) k (least_below-some p n k) (least_below-none p n) refl (sym (least_below-suc p n) ∙ e)

-- what is found stays found
pub least_below-stays : (p : ℕ → Bool) (n k d : ℕ) → least_below p n ≡ Some k → least_below p (d + n) ≡ Some k
least_below-stays p n k zero e = let z : 0 + n ≡ n = omega arith in rw z e
least_below-stays p n k (suc d) e =
    let z : suc d + n ≡ suc (d + n) = omega arith in
    let ih = least_below-stays p n k d e in
    rw (z, least_below-suc p (d + n), ih) refl

-- tests that agree below the bound find the same
pub least_below-cong : (p q : ℕ → Bool) (n : ℕ) → ((k : ℕ) → k < n → p k ≡ q k) → least_below p n ≡ least_below q n
least_below-cong p q zero h = least_below-zero p ∙ sym (least_below-zero q)
least_below-cong p q (suc n) h =
    let ih = least_below-cong p q n (λ k lt. h k (omega arith)) in
    let here = h n (omega arith) in
    rw (least_below-suc p n, least_below-suc q n, ih, here) refl

-- a step of a loop that keeps the least number so far
pub least_below-step : (p : ℕ → Bool) (n : ℕ) (o r : Option ℕ) (x : Bool) → o ≡ least_below p n → x ≡ p n → r ≡ first_of o (cond x (Some n) None) → r ≡ least_below p (n + 1)
least_below-step p n o r x e f g = let more = least_below-more p n in rw (more, ← e, ← f) g

-- nothing later changes nothing
pub first_of-none : (o : Option ℕ) → o ≡ first_of o None
first_of-none None = refl
first_of-none (Some k) = refl
