-- The first element of a list that passes a test.
use Rattle.std.proofs.Common.{◌≡◌, ◌≢◌, ℕ, zero, suc, ◌+◌, ◌<◌, Bool, true, false, cond, List, [], ◌∷◌, length, take, drop, get_or, find, Some, None, refl, arith, ap, sym, ◌∙◌}
use Rattle.std.specs.Option.{option_or}
use Rattle.std.proofs.Math.Seq.{drop-cons}
use Rattle.std.proofs.lemmas.List.{take-append-drop, take_more}
use Rattle.std.proofs.lemmas.List.Folds.{find-append}

module _ {X : Type 0} (p : X → Bool) (xs : List X) (i : ℕ) (d : X) (inside : i < length xs) (before : find p (take i xs) ≡ None) where
  -- it is found where it passes
  pub found : true ≡ p (get_or xs i d) → Some (get_or xs i d) ≡ find p xs
  found passes =
      sym
      (ap (find p) (sym (take-append-drop i xs))
      ∙ find-append p (take i xs) (drop i xs)
      ∙ ap (λ o. option_or o (find p (drop i xs))) before
      ∙ ap (find p) (drop-cons xs i d inside)
      ∙ ap (λ b. cond b (Some (get_or xs i d)) (find p (drop (suc i) xs))) (sym passes))

  -- none is found up to the next where it fails
  pub found_none : false ≡ p (get_or xs i d) → find p (take (i + 1) xs) ≡ None
  found_none fails =
      ap (find p) (take_more xs i d inside)
      ∙ find-append p (take i xs) (get_or xs i d ∷ [])
      ∙ ap (λ o. option_or o (find p (get_or xs i d ∷ []))) before
      ∙ ap (λ b. cond b (Some (get_or xs i d)) None) (sym fails)

module _ {X : Type 0} (p : X → Bool) where
  pub none_passes : (xs : List X) (d : X) → ((k : ℕ) → k < length xs → p (get_or xs k d) ≡ false) → find p xs ≡ None
  none_passes [] d none = refl
  none_passes (x ∷ xs) d none =
      ap (λ b. cond b (Some x) (find p xs)) (none 0 (omega arith))
      ∙ none_passes xs d (λ k inside. none (suc k) (omega arith))

  -- where no other passes, it is the one or none
  pub only_one : (xs : List X) (n : ℕ) (d : X) → n < length xs → ((k : ℕ) → k < length xs → k ≢ n → p (get_or xs k d) ≡ false) → find p xs ≡ cond (p (get_or xs n d)) (Some (get_or xs n d)) None
  only_one [] n d inside others = absurd (omega arith)
  only_one (x ∷ xs) zero d inside others =
      ap (λ o. cond (p x) (Some x) o) (none_passes xs d (λ k within. others (suc k) (omega arith) (λ same. omega arith)))
  only_one (x ∷ xs) (suc n) d inside others =
      ap (λ b. cond b (Some x) (find p xs)) (others 0 (omega arith) (λ same. omega arith))
      ∙ only_one xs n d (omega arith) (λ k within other. others (suc k) (omega arith) (λ same. other (omega arith)))

  -- it is found where those before it fail
  pub found_at : (xs : List X) (n : ℕ) (d : X) → n < length xs → ((k : ℕ) → k < n → p (get_or xs k d) ≡ false) → p (get_or xs n d) ≡ true → find p xs ≡ Some (get_or xs n d)
  found_at [] n d inside before here = absurd (omega arith)
  found_at (x ∷ xs) zero d inside before here = ap (λ b. cond b (Some x) (find p xs)) here
  found_at (x ∷ xs) (suc n) d inside before here =
      ap (λ b. cond b (Some x) (find p xs)) (before 0 (omega arith))
      ∙ found_at xs n d (omega arith) (λ k h. before (suc k) (omega arith)) here
