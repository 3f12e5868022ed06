-- What is known of a look-up that found something, or nothing.
use Rattle.std.proofs.Common.{◌≡◌, ℕ, Option, Some, None, refl, sym, subst}
use Rattle.std.specs.Prelude.{MatchOption}

pub where_none : (r : Option ℕ) (P : Type 0) (Q : ℕ → Type 0) → ((n : ℕ) → r ≡ Some n → ⊥) → P → MatchOption r P Q
where_none None P Q not_some h = h
where_none (Some n) P Q not_some h = absurd (not_some n refl)

pub where_some : (r : Option ℕ) (P : Type 0) (Q : ℕ → Type 0) (n : ℕ) → r ≡ Some n → Q n → MatchOption r P Q
where_some r P Q n e h = subst (λ (o : Option ℕ). MatchOption o P Q) (sym e) h
