-- Numbers in a row, and the least of them that passes.
use Rattle.std.proofs.Common.{◌≡◌, ℕ, zero, suc, ◌+◌, ◌-◌, ◌<◌, ◌≤◌, List, [], ◌∷◌, ◌++◌, Bool, true, false, Some, None, refl, sym, ap, ◌∙◌, arith}
use Rattle.std.specs.List.{range_with_len}
use Rattle.elf_objects.specs.Below.{least_below}
use Rattle.elf_objects.proofs.LeastBelow.{least_below-stays, least_below-suc, none-least_below}

pub range-step : (k n : ℕ) → k < n → range_with_len k (n - k) ≡ k ∷ range_with_len (k + 1) (n - (k + 1))
range-step k n h =
    let e : n - k ≡ suc (n - (k + 1)) = omega arith in
    ap (range_with_len k) e

pub range-end : (k n : ℕ) → n ≤ k → range_with_len k (n - k) ≡ []
range-end k n h =
    let e : n - k ≡ 0 = omega arith in
    ap (range_with_len k) e

pub range-whole : (n : ℕ) → range_with_len 0 (n - 0) ≡ range_with_len 0 n
range-whole n =
    let e : n - 0 ≡ n = omega arith in
    ap (range_with_len 0) e

-- a row in two
pub range-split : (a n m : ℕ) → range_with_len a (n + m) ≡ range_with_len a n ++ range_with_len (a + n) m
range-split a zero m =
    let z : a + 0 ≡ a = omega arith in
    let y : 0 + m ≡ m = omega arith in
    rw (z, y) refl
range-split a (suc n) m =
    let e : suc n + m ≡ suc (n + m) = omega arith in
    let f : a + suc n ≡ a + 1 + n = omega arith in
    ap (range_with_len a) e ∙ ap (λ (r : List ℕ). a ∷ r) (range-split (a + 1) n m) ∙ ap (λ (x : ℕ). a ∷ (range_with_len (a + 1) n ++ range_with_len x m)) (sym f)

-- the least number is the one that passes where none before does
pub least_below-is : (p : ℕ → Bool) (n k : ℕ) → k < n → p k ≡ true → ((j : ℕ) → j < k → p j ≡ false) → least_below p n ≡ Some k
least_below-is p n k h passes none =
    let before : least_below p k ≡ None = none-least_below p k none in
    let here : least_below p (suc k) ≡ Some k = rw (least_below-suc p k, before, passes) refl in
    let e : n - suc k + suc k ≡ n = omega arith in
    ap (least_below p) (sym e) ∙ least_below-stays p (suc k) k (n - suc k) here
