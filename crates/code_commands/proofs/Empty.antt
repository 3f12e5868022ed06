-- What a test for emptiness says of a list.
use Rattle.std.proofs.Common.{◌≡◌, ℕ, Bool, true, false, List, [], ◌==◌, length, sym, ap, ◌∙◌}
use Rattle.std.proofs.lemmas.Bool.{eqb-true, eqb-false}
use Rattle.std.proofs.lemmas.List.{nil_from_length}

module _ {X : Type 0} (b : Bool) (n : ℕ) (xs : List X) (tells : b ≡ (n == 0)) (long : n ≡ length xs) where
  pub is_empty : b ≡ true → xs ≡ []
  is_empty e = nil_from_length xs (sym long ∙ eqb-true n 0 (sym tells ∙ e))

  pub not_empty : b ≡ false → xs ≡ [] → ⊥
  not_empty e none = eqb-false n 0 (sym tells ∙ e) (long ∙ ap length none)
