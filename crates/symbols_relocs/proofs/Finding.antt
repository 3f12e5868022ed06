-- The first element of a list that passes a test, while the list is gone through.
use Rattle.std.proofs.Common.{◌≡◌, ℕ, suc, ◌+◌, ◌<◌, Bool, true, false, cond, List, [], ◌∷◌, length, take, drop, get_or, find, Some, None, ap, sym, ◌∙◌}
use Rattle.std.specs.Option.{option_or}
use Rattle.std.proofs.Math.Seq.{drop-cons}
use Rattle.std.proofs.lemmas.List.{take-append-drop, take_more}
use Rattle.std.proofs.lemmas.List.Folds.{find-append}

module _ {X : Type 0} (p : X → Bool) (xs : List X) (i : ℕ) (d : X) (inside : i < length xs) (before : find p (take i xs) ≡ None) where
  -- it is found where it passes
  pub found : true ≡ p (get_or xs i d) → Some (get_or xs i d) ≡ find p xs
  found passes =
      sym
      (ap (find p) (sym (take-append-drop i xs))
      ∙ find-append p (take i xs) (drop i xs)
      ∙ ap (λ o. option_or o (find p (drop i xs))) before
      ∙ ap (find p) (drop-cons xs i d inside)
      ∙ ap (λ b. cond b (Some (get_or xs i d)) (find p (drop (suc i) xs))) (sym passes))

  -- none is found up to the next where it fails
  pub found_none : false ≡ p (get_or xs i d) → find p (take (i + 1) xs) ≡ None
  found_none fails =
      ap (find p) (take_more xs i d inside)
      ∙ find-append p (take i xs) (get_or xs i d ∷ [])
      ∙ ap (λ o. option_or o (find p (get_or xs i d ∷ []))) before
      ∙ ap (λ b. cond b (Some (get_or xs i d)) None) (sym fails)
