-- What a test for emptiness says of a list.
use Rattle.std.proofs.Common.{◌≡◌, ℕ, ◌<◌, Bool, true, false, List, [], ◌∷◌, ◌==◌, Contains, length, sym, ◌∙◌, arith}
use Rattle.std.proofs.lemmas.Bool.{eqb-true, eqb-false}
use Rattle.std.proofs.lemmas.List.{nil_from_length}
use Rattle.unwinding_law.proofs.Lists.{here}

module _ {X : Type 0} (b : Bool) (n : ℕ) (xs : List X) (tells : b ≡ (n == 0)) (long : n ≡ length xs) where
  pub is_empty : b ≡ true → xs ≡ []
  is_empty e = nil_from_length xs (sym long ∙ eqb-true n 0 (sym tells ∙ e))

  pub is_longer : b ≡ false → 0 < length xs
  is_longer e = let some : n ≡ 0 → ⊥ = eqb-false n 0 (sym tells ∙ e) in omega (arith, some, long)

-- what isn't empty has an element
pub element : {X : Type 0} (xs : List X) → 0 < length xs → (x : X) × Contains xs x
element [] l = absurd (omega (arith, l))
element (x ∷ xs) l = (x, here x xs)
