-- The last hint at a place, among hints in the order of their places.
use Rattle.std.proofs.Common.{◌≡◌, ℕ, zero, suc, ◌-◌, ◌<◌, Bool, true, false, cond, List, [], ◌∷◌, length, get_or, find, reverse, Some, None, arith, refl, ap, ◌∙◌}
use Rattle.std.proofs.lemmas.List.{get_or-reverse, length-reverse}

module _ {X : Type 0} (p : X → Bool) where
  -- it is found where those before it fail
  found_at : (xs : List X) (n : ℕ) (d : X) → n < length xs → ((k : ℕ) → k < n → p (get_or xs k d) ≡ false) → p (get_or xs n d) ≡ true → find p xs ≡ Some (get_or xs n d)
  found_at [] n d inside before here = absurd (omega arith)
  found_at (x ∷ xs) zero d inside before here = ap (λ b. cond b (Some x) (find p xs)) here
  found_at (x ∷ xs) (suc n) d inside before here =
      ap (λ b. cond b (Some x) (find p xs)) (before 0 (omega arith))
      ∙ found_at xs n d (omega arith) (λ k h. before (suc k) (omega arith)) here

  -- none is found where all fail
  found_none : (xs : List X) (d : X) → ((k : ℕ) → k < length xs → p (get_or xs k d) ≡ false) → find p xs ≡ None
  found_none [] d all = refl
  found_none (x ∷ xs) d all =
      ap (λ b. cond b (Some x) (find p xs)) (all 0 (omega arith))
      ∙ found_none xs d (λ k h. all (suc k) (omega arith))

  -- from the end on it is found where those behind it fail
  pub found_last : (xs : List X) (n : ℕ) (d : X) → n < length xs → ((k : ℕ) → n < k → k < length xs → p (get_or xs k d) ≡ false) → p (get_or xs n d) ≡ true → find p (reverse xs) ≡ Some (get_or xs n d)
  found_last xs n d inside behind here =
      let m : ℕ = length xs - 1 - n in
      let it : get_or (reverse xs) m d ≡ get_or xs n d =
      get_or-reverse xs m d (omega arith) ∙ ap (λ k. get_or xs k d) {x = length xs - 1 - m} {y = n} (omega arith) in
      found_at (reverse xs) m d (omega (arith, length-reverse xs))
      (λ k lower. ap p (get_or-reverse xs k d (omega arith)) ∙ behind (length xs - 1 - k) (omega arith) (omega arith))
      (ap p it ∙ here)
      ∙ ap (λ x. Some x) it

  pub found_nowhere : (xs : List X) (d : X) → ((k : ℕ) → k < length xs → p (get_or xs k d) ≡ false) → find p (reverse xs) ≡ None
  found_nowhere xs d all =
      found_none (reverse xs) d (λ k inside.
      let within : k < length xs = omega (arith, length-reverse xs) in
      ap p (get_or-reverse xs k d within) ∙ all (length xs - 1 - k) (omega arith))
