-- The rows of one section, from the row that begins at each of its places.
use Rattle.std.proofs.lemmas.Option.{none-some}
use Rattle.std.proofs.Common.{◌≡◌, ℕ, ◌<◌, ◌≤◌, ◌⊎◌, List, [], ◌∷◌, Option, Some, None, Contains, refl, sym, ap, ◌∙◌, subst, inl, inr, arith}
use Rattle.std.specs.Prelude.{filter_map, option_map}
use Rattle.std.proofs.lemmas.List.Elements.{Contains-append_left, Contains-append_right, Contains-append_cases}
use Rattle.ot_base.specs.declared.place.Place.{Place}
use Rattle.ot_base.specs.declared.row.Row.{Row}
use Rattle.ot_base.specs.declared.row.PlacedRow.{PlacedRow}
use Rattle.state_defs.specs.Row.{zero_row}
use Rattle.machine_defs.specs.Program.{TextSection, below}
use Rattle.machine_defs.specs.Rows.{placed, place_in, without_repeats, with_end}
use Rattle.unwinding_law.proofs.Lists.{here, cases, nowhere, in_below, from_below}
use Rattle.table_law.proofs.Lists.{some_is, in_filter_map, from_filter_map}
use Rattle.table_law.proofs.Compress.{left_in, IsLastUpTo, Rises, rises_below, StaysLast, stays_last}

-- the row that says that nothing is known behind a section
abbrev pub end_row : TextSection → PlacedRow
end_row text = placed (place_in text text.size) zero_row

module _ (text : TextSection) where
  -- the rows with the one at the end
  pub in_ended : (xs : List PlacedRow) (x : PlacedRow) → Contains xs x → Contains (with_end text xs) x
  in_ended [] x c = c
  in_ended (z ∷ xs) x c = Contains-append_left (z ∷ xs) (end_row text ∷ []) x c

  pub from_ended : (xs : List PlacedRow) (x : PlacedRow) → Contains (with_end text xs) x → Contains xs x ⊎ (x ≡ end_row text)
  from_ended [] x c = inl c
  from_ended (z ∷ xs) x c = elim (Contains-append_cases (z ∷ xs) (end_row text ∷ []) x c) [ inl d ↦ inl d | inr d ↦ elim (cases (end_row text) [] x d) [ inl e ↦ inr (sym e) | inr k ↦ nowhere x k ] ]

  -- where there is a row there is one at the end, and another
  pub end_in : (xs : List PlacedRow) (x : PlacedRow) → Contains (with_end text xs) x → Contains (with_end text xs) (end_row text) × ((y : PlacedRow) × Contains xs y)
  end_in [] x c = nowhere x c
  end_in (z ∷ xs) x c = (Contains-append_right (z ∷ xs) (end_row text ∷ []) (end_row text) (here (end_row text) []), (z, here z xs))

module _ (row : Place → Option Row) (text : TextSection) where
  -- the row of an offset, with its place
  abbrev pub row_from : ℕ → Option PlacedRow
  row_from off = option_map (placed (place_in text off)) (row (place_in text off))

  -- a row for each place of the section at which one begins
  abbrev pub rows_at : List PlacedRow
  rows_at = filter_map row_from (below text.size)

  -- without repeats
  abbrev pub rows_left : List PlacedRow
  rows_left = without_repeats zero_row rows_at

  -- with the row at the end
  abbrev pub rows_in : List PlacedRow
  rows_in = with_end text rows_left

  -- what the row of an offset is
  placed_is : (off : ℕ) (o : Option Row) (x : PlacedRow) → option_map (placed (place_in text off)) o ≡ Some x → (x.place ≡ place_in text off) × (o ≡ Some x.row)
  placed_is off None x e = absurd (none-some _ e)
  placed_is off (Some r) x e = let k = some_is e in (sym (ap (λ (z : PlacedRow). z.place) k), ap (λ (z : PlacedRow). Some z.row) k)

  -- what a row of the section is
  pub record IsRowIn (x : PlacedRow) : Type 0 where
    pub place : x.place ≡ place_in text x.place.off
    pub low : x.place.off < text.size
    pub row_is : row (place_in text x.place.off) ≡ Some x.row

  -- each row is one
  pub is_row : (x : PlacedRow) → Contains rows_at x → IsRowIn x
  is_row x c =
      let r = from_filter_map row_from (below text.size) x c in
      let k = placed_is r.0 (row (place_in text r.0)) x r.2 in
      let e : r.0 ≡ x.place.off = sym (ap (λ (z : Place). z.off) k.0) in
      record {
        place = subst (λ (n : ℕ). x.place ≡ place_in text n) e k.0;
        low = subst (λ (n : ℕ). n < text.size) e (from_below text.size r.0 r.1);
        row_is = subst (λ (n : ℕ). row (place_in text n) ≡ Some x.row) e k.1;
      }

  -- also each that is left
  pub left_is_row : (x : PlacedRow) → Contains rows_left x → IsRowIn x
  left_is_row x c = is_row x (left_in zero_row rows_at x c)

  -- the rows rise
  rises : Rises rows_at
  rises = rises_below row_from (λ off x e. ap (λ (z : Place). z.off) (placed_is off (row (place_in text off)) x e).0) text.size

  -- the row in force at an offset: it begins at or below, and none begins behind it up to there
  pub record IsInForceAt (at : ℕ) (r : Row) : Type 0 where
    pub from : ℕ
    pub low : from ≤ at
    pub within : at < text.size
    pub begins : row (place_in text from) ≡ Some r
    pub none : (off : ℕ) → from < off → off ≤ at → row (place_in text off) ≡ None

  -- a row is made of its place and contents
  same_placed : (x : PlacedRow) (place : Place) (r : Row) → x.place ≡ place → x.row ≡ r → x ≡ placed place r
  same_placed x place r e f = subst (λ (z : Place). x ≡ placed z r) e (subst (λ (z : Row). x ≡ placed x.place z) f refl)

  -- the row in force is the last at or below
  last_at : (at : ℕ) (r : Row) → (h : IsInForceAt at r) → IsLastUpTo at rows_at (placed (place_in text h.from) r)
  last_at at r h = record {
    listed = in_filter_map row_from (below text.size) h.from (placed (place_in text h.from) r) (in_below text.size h.from (omega (arith, h.low, h.within))) (ap (option_map (placed (place_in text h.from))) h.begins);
    low = h.low;
    last = λ y c l. go y (is_row y c) l (let t : (y.place.off < h.from) ⊎ ((h.from < y.place.off) ⊎ (h.from ≡ y.place.off)) = grind arith in t);
  }
    where
      go : (y : PlacedRow) → IsRowIn y → y.place.off ≤ at → (y.place.off < h.from) ⊎ ((h.from < y.place.off) ⊎ (h.from ≡ y.place.off)) → (y.place.off < h.from) ⊎ (y ≡ placed (place_in text h.from) r)
      go y k l (inl m) = inl m
      go y k l (inr (inl m)) = absurd (none-some _ (sym (h.none y.place.off m l) ∙ k.row_is))
      go y k l (inr (inr e)) = inr (same_placed y (place_in text h.from) r (k.place ∙ ap (place_in text) (sym e)) (some_is (sym k.row_is ∙ (ap (λ (n : ℕ). row (place_in text n)) (sym e) ∙ h.begins))))

  -- the last row of the section at or below an offset has the contents of the row in force there
  pub last_left : (at : ℕ) (r : Row) → IsInForceAt at r → StaysLast at zero_row r rows_left
  last_left at r h = stays_last at zero_row rows_at (placed (place_in text h.from) r) rises (last_at at r h)
