-- Whether one of a list passes a test.
use Rattle.std.proofs.Common.{◌≡◌, ◌≢◌, ℕ, zero, suc, ◌<◌, Bool, true, false, ◌||◌, List, [], ◌∷◌, length, get_or, arith, refl, ap, ◌∙◌}
use Rattle.std.specs.List.{list_any}

or_nothing : (b : Bool) → (b || false) ≡ b
or_nothing b = elim b as (λ b. (b || false) ≡ b) [ true ↦ refl | false ↦ refl ]

or_that : (b : Bool) → (b || true) ≡ true
or_that b = elim b as (λ b. (b || true) ≡ true) [ true ↦ refl | false ↦ refl ]

module _ {X : Type 0} (p : X → Bool) where
  pub none_passes : (xs : List X) (d : X) → ((k : ℕ) → k < length xs → p (get_or xs k d) ≡ false) → list_any p xs ≡ false
  none_passes [] d none = refl
  none_passes (x ∷ xs) d none =
      ap (λ b. b || list_any p xs) (none 0 (omega arith))
      ∙ none_passes xs d (λ k inside. none (suc k) (omega arith))

  pub one_passes : (xs : List X) (n : ℕ) (d : X) → n < length xs → p (get_or xs n d) ≡ true → list_any p xs ≡ true
  one_passes [] n d inside here = absurd (omega arith)
  one_passes (x ∷ xs) zero d inside here = ap (λ b. b || list_any p xs) here
  one_passes (x ∷ xs) (suc n) d inside here = ap (λ b. p x || b) (one_passes xs n d (omega arith) here) ∙ or_that (p x)

  -- where no other passes, it is as with this one
  pub only_one : (xs : List X) (n : ℕ) (d : X) → n < length xs → ((k : ℕ) → k < length xs → k ≢ n → p (get_or xs k d) ≡ false) → list_any p xs ≡ p (get_or xs n d)
  only_one [] n d inside others = absurd (omega arith)
  only_one (x ∷ xs) zero d inside others =
      ap (λ b. p x || b) (none_passes xs d (λ k within. others (suc k) (omega arith) (λ same. omega arith)))
      ∙ or_nothing (p x)
  only_one (x ∷ xs) (suc n) d inside others =
      ap (λ b. b || list_any p xs) (others 0 (omega arith) (λ same. omega arith))
      ∙ only_one xs n d (omega arith) (λ k within other. others (suc k) (omega arith) (λ same. other (omega arith)))
