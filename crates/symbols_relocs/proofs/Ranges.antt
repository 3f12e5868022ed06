-- Some of the numbers from one on, or none of them, pass a test.
use Rattle.std.proofs.Common.{◌≡◌, ℕ, ◌+◌, ◌<◌, Bool, true, false, ap, ◌∙◌, arith}
use Rattle.std.specs.List.{list_any, range_with_len}
use Rattle.std.proofs.lemmas.List.Folds.{list_any-from_Any, list_any_none}
use Rattle.std.proofs.lemmas.List.FromFn.{get_or-range_with_len, length-range_with_len}

module _ (test : ℕ → Bool) (first count : ℕ) where
  pub some_pass : (i : ℕ) → i < count → test (first + i) ≡ true → list_any test (range_with_len first count) ≡ true
  some_pass i inside passes =
      list_any-from_Any test (range_with_len first count) (i, first + i, omega (arith, inside, length-range_with_len first count), get_or-range_with_len first count i (first + i) inside, passes)

  pub none_pass : ((i : ℕ) → i < count → test (first + i) ≡ false) → list_any test (range_with_len first count) ≡ false
  none_pass each = list_any_none test (range_with_len first count) (λ i d l. (
      let inside : i < count = omega (arith, l, length-range_with_len first count) in
      ap test (get_or-range_with_len first count i d inside) ∙ each i inside))
