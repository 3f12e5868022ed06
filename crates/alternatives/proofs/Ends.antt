-- What no text of another section is.
use Rattle.std.proofs.Common.{◌≡◌, ◌≢◌, ℕ, Bool, false, eqb, ◌&&◌, inl, inr, ap}
use Rattle.std.proofs.lemmas.Bool.Decides.{eqb_tells}

pub eqb-ne : (a b : ℕ) → a ≢ b → eqb a b ≡ false
eqb-ne a b other = elim (eqb_tells a b) [ inl (h, same) ↦ absurd (other same) | inr (h, differ) ↦ h ]

pub other_fails : (a b : ℕ) (rest : Bool) → a ≢ b → (eqb a b && rest) ≡ false
other_fails a b rest other = ap (λ h. h && rest) (eqb-ne a b other)
