-- What is made of the elements of a list, one more of them.
use Rattle.std.proofs.Common.{◌≡◌, ℕ, ◌+◌, ◌<◌, ◌≤◌, List, [], ◌∷◌, ◌++◌, length, get_or, Contains, inl, inr, arith, ap, sym, ◌∙◌, subst}
use Rattle.std.proofs.lemmas.Bool.{cases_lt}
use Rattle.std.proofs.lemmas.List.{get_or_default}
use Rattle.std.proofs.lemmas.List.Elements.{Contains-append_left, Contains-push}

module _ {X Y : Type 0} (f : X → Y) (P : X → Type 0) (items : List X) (i : ℕ) (d : X) (inside : i < length items) (made : List Y) (so_far : (k : ℕ) (e : X) → k < i → P (get_or items k e) → Contains made (f (get_or items k e))) where
  -- the element at i, whatever is there past the end
  here_is : (k : ℕ) (e : X) → k < i + 1 → i ≤ k → get_or items i d ≡ get_or items k e
  here_is k e l m = let same : i ≡ k = omega arith in get_or_default items i d e inside ∙ ap (λ (n : ℕ). get_or items n e) same

  -- it has the property, and something is made of it
  pub all_made : (k : ℕ) (e : X) → k < i + 1 → P (get_or items k e) → Contains (made ++ f (get_or items i d) ∷ []) (f (get_or items k e))
  all_made k e l h = elim (cases_lt k i) [
    | inl lower ↦ Contains-append_left made (f (get_or items i d) ∷ []) (f (get_or items k e)) (so_far k e lower h)
    | inr same ↦ subst (λ (x : X). Contains (made ++ f (get_or items i d) ∷ []) (f x)) (here_is k e l same) (Contains-push made (f (get_or items i d)))
  ]

  -- it hasn't
  pub none_made : (P (get_or items i d) → ⊥) → (k : ℕ) (e : X) → k < i + 1 → P (get_or items k e) → Contains made (f (get_or items k e))
  none_made no_more k e l h = elim (cases_lt k i) [
    | inl lower ↦ so_far k e lower h
    | inr same ↦ absurd (no_more (subst P (sym (here_is k e l same)) h))
  ]
