-- The first element of a list that passes a test.
use Rattle.std.proofs.Common.{◌≡◌, ◌≢◌, ℕ, zero, suc, ◌<◌, Bool, false, cond, List, [], ◌∷◌, length, get_or, find, Some, None, refl, arith, ap, ◌∙◌}

module _ {X : Type 0} (p : X → Bool) where
  pub none_passes : (xs : List X) (d : X) → ((k : ℕ) → k < length xs → p (get_or xs k d) ≡ false) → find p xs ≡ None
  none_passes [] d none = refl
  none_passes (x ∷ xs) d none =
      ap (λ b. cond b (Some x) (find p xs)) (none 0 (omega arith))
      ∙ none_passes xs d (λ k inside. none (suc k) (omega arith))

  -- where no other passes, it is the one or none
  pub only_one : (xs : List X) (n : ℕ) (d : X) → n < length xs → ((k : ℕ) → k < length xs → k ≢ n → p (get_or xs k d) ≡ false) → find p xs ≡ cond (p (get_or xs n d)) (Some (get_or xs n d)) None
  only_one [] n d inside others = absurd (omega arith)
  only_one (x ∷ xs) zero d inside others =
      ap (λ o. cond (p x) (Some x) o) (none_passes xs d (λ k within. others (suc k) (omega arith) (λ same. omega arith)))
  only_one (x ∷ xs) (suc n) d inside others =
      ap (λ b. cond b (Some x) (find p xs)) (others 0 (omega arith) (λ same. omega arith))
      ∙ only_one xs n d (omega arith) (λ k within other. others (suc k) (omega arith) (λ same. other (omega arith)))
