-- Points before which no row waits.
use Rattle.std.proofs.Common.{◌≡◌, ◌⊎◌, ℕ, ◌<◌, ◌≤◌, Bool, true, false, List, Option, Some, None, inl, inr, arith, refl, subst, sym, ◌∙◌}
use Rattle.std.specs.Prelude.{IfSome, IsSomeAnd, MatchOption}
use Rattle.std.proofs.lemmas.Bool.{both_ways, cases_lt}
use Rattle.ot_base.specs.declared.place.Place.{Place}
use Rattle.ot_base.specs.declared.row.PlacedRow.{PlacedRow}
use Rattle.ot_base.specs.Places.{is_before}
use Rattle.state_defs.specs.declared.state.State.{State}
use Rattle.machine_defs.specs.Program.{Program, IsPoint}
use Rattle.machine_defs.specs.Rows.{row_of_point, row_or_zero}
use Rattle.table_defs.specs.Order.{PlainPointsAscend}
use Rattle.program_check.specs.Changes.{is_held}
use Rattle.program_check.proofs.Places.{before_through, before_from}

-- a number up to another is less, or that one
up_to : (a b : ℕ) → a ≤ b → (a < b) ⊎ (a ≡ b)
up_to a b l = elim (cases_lt a b) [ inl lower ↦ inl lower | inr same ↦ (let e : a ≡ b = omega arith in inr e) ]

module _ (p : Program) (ascending : PlainPointsAscend p) where
  -- what doesn't lie before one doesn't lie before those in front of it
  pub clear_below : (place : Place) (k last : ℕ) → k ≤ last → IsPoint p last → p.variant k ≡ 0 → p.variant last ≡ 0 → is_before place (p.place last) ≡ false → is_before place (p.place k) ≡ false
  clear_below place k last high point plain_k plain_last clear = elim (up_to k last high) [
    | inr same ↦ subst (λ (q : ℕ). is_before place (p.place q) ≡ false) (sym same) clear
    | inl after ↦
        let k_point : IsPoint p k = omega (arith, after, point) in
        go (is_before place (p.place k)) refl (λ h. both_ways (is_before place (p.place last)) clear (before_through place (p.place k) (p.place last) h (before_from (p.place k) (p.place last) (ascending k last k_point point plain_k plain_last after))))
  ]
    where
      go : (b : Bool) → is_before place (p.place k) ≡ b → (is_before place (p.place k) ≡ true → ⊥) → is_before place (p.place k) ≡ false
      go true e none = absurd (none e)
      go false e none = e

-- the plain points from one on and before another are in the section of the held one, if one is held
abbrev pub AreInSection : Program → Option ℕ → ℕ → ℕ → Type 0
AreInSection p held from to = MatchOption held (to ≡ 0) (λ h. (k : ℕ) → from ≤ k → k < to → p.variant k ≡ 0 → (p.place k).sec ≡ (p.place h).sec)

module _ (p : Program) where
  pub section_from : (held : Option ℕ) (from to n : ℕ) → AreInSection p held from to → from ≤ n → n < to → p.variant n ≡ 0 → (k : ℕ) → n ≤ k → k < to → p.variant k ≡ 0 → (p.place k).sec ≡ (p.place n).sec
  section_from None from to n none low inside plain_n k after high plain_k = absurd (omega (arith, none, inside))
  section_from (Some h) from to n same low inside plain_n k after high plain_k = same k (omega (arith, low, after)) high plain_k ∙ sym (same n low inside plain_n)

  pub section_behind : (held : Option ℕ) (from to next : ℕ) → AreInSection p held from to → from ≤ next → AreInSection p held next to
  section_behind None from to next none low = none
  section_behind (Some h) from to next same low = λ k l m plain. same k (omega (arith, low, l)) m plain

  -- where the same state is kept, the same row holds
  pub held_there : (states : ℕ → Option State) (held : Option ℕ) (rows : List PlacedRow) (from to k : ℕ) → IsSomeAnd held (λ h. states h ≡ states k) → IfSome held (λ h. is_held rows (p.place h).sec (row_of_point states h) ≡ true) → AreInSection p held from to → from ≤ k → k < to → p.variant k ≡ 0 → is_held rows (p.place k).sec (row_of_point states k) ≡ true
  held_there states None rows from to k some is section low high plain = absurd some
  held_there states (Some h) rows from to k same is section low high plain =
      subst (λ (sec : ℕ). is_held rows sec (row_of_point states k) ≡ true) (sym (section k low high plain)) (subst (λ (o : Option State). is_held rows (p.place h).sec (row_or_zero o) ≡ true) same is)
