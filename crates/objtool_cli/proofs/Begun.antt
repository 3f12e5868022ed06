-- At every place of a section a row is in force, where nothing is known at the section's beginning unless a row begins there.
use Rattle.std.proofs.Common.{◌≡◌, ℕ, zero, suc, ◌<◌, ◌≤◌, ◌⊎◌, List, [], ◌∷◌, ◌++◌, Option, Some, None, flat_map, refl, sym, ap, ◌∙◌, subst, inl, inr, arith, append_assoc}
use Rattle.std.specs.Prelude.{filter_map}
use Rattle.std.proofs.lemmas.List.Elements.{filter_map-append}
use Rattle.ot_base.specs.Section.{TextSection}
use Rattle.ot_base.specs.declared.place.Place.{Place}
use Rattle.ot_base.specs.declared.row.PlacedRow.{PlacedRow}
use Rattle.ot_base.specs.declared.row.Row.{Row}
use Rattle.state_defs.specs.Row.{zero_row}
use Rattle.machine_defs.specs.Program.{below}
use Rattle.machine_defs.specs.Rows.{place_in, placed, with_end, without_repeats}
use Rattle.table_law.proofs.Lists.{some_is}
use Rattle.table_law.proofs.Sections.{IsInForceAt, row_from, rows_at, rows_in, rows_left}

-- at the beginning of a section nothing is known, unless a row begins there
abbrev begun : ℕ → Option Row → Option Row
begun zero None = Some zero_row
begun zero (Some row) = Some row
begun (suc off) found = found

abbrev pub from_start : (Place → Option Row) → Place → Option Row
from_start row place = begun place.off (row place)

-- that row is left out as one that repeats what was known before
module _ (row : Place → Option Row) (text : TextSection) where
  front_of : Option Row → List PlacedRow
  front_of None = placed (place_in text 0) zero_row ∷ []
  front_of (Some r) = []

  front : ℕ → List PlacedRow
  front zero = []
  front (suc n) = front_of (row (place_in text 0))

  first_given : (o : Option Row) → row (place_in text 0) ≡ o → filter_map (row_from (from_start row) text) (0 ∷ []) ≡ front_of o ++ filter_map (row_from row text) (0 ∷ [])
  unfolding front_of
  first_given None e = rw (e) refl
  first_given (Some r) e = rw (e) refl

  begun_front : (n : ℕ) → filter_map (row_from (from_start row) text) (below n) ≡ front n ++ filter_map (row_from row text) (below n)
  unfolding front
  begun_front zero = refl
  begun_front (suc zero) = first_given (row (place_in text 0)) refl
  begun_front (suc (suc n)) =
      filter_map-append (row_from (from_start row) text) (below (suc n)) (suc n ∷ [])
      ∙ ap (λ (xs : List PlacedRow). xs ++ filter_map (row_from row text) (suc n ∷ [])) (begun_front (suc n))
      ∙ append_assoc (front (suc n)) (filter_map (row_from row text) (below (suc n))) (filter_map (row_from row text) (suc n ∷ []))
      ∙ ap (λ (xs : List PlacedRow). front (suc n) ++ xs) (sym (filter_map-append (row_from row text) (below (suc n)) (suc n ∷ [])))

  left_of : (o : Option Row) (xs : List PlacedRow) → without_repeats zero_row (front_of o ++ xs) ≡ without_repeats zero_row xs
  unfolding front_of
  left_of None xs = refl
  left_of (Some r) xs = refl

  left_front : (n : ℕ) (xs : List PlacedRow) → without_repeats zero_row (front n ++ xs) ≡ without_repeats zero_row xs
  unfolding front
  left_front zero xs = refl
  left_front (suc n) xs = left_of (row (place_in text 0)) xs

  pub left_same : rows_left (from_start row) text ≡ rows_left row text
  left_same = ap (without_repeats zero_row) (begun_front text.size) ∙ left_front text.size (rows_at row text)

  pub rows_same : rows_in (from_start row) text ≡ rows_in row text
  rows_same = ap (with_end text) left_same

  -- a row is in force at each place
  pub in_force : (off : ℕ) → off < text.size → (r : Row) × IsInForceAt (from_start row) text off r
  in_force zero inside = at_start (row (place_in text 0)) refl
    where
      at_start : (o : Option Row) → row (place_in text 0) ≡ o → (r : Row) × IsInForceAt (from_start row) text 0 r
      at_start None e = (zero_row, record { from = 0; low = omega arith; within = inside; begins = ap (begun 0) e; none = λ k above low. absurd (omega arith) })
      at_start (Some r) e = (r, record { from = 0; low = omega arith; within = inside; begins = ap (begun 0) e; none = λ k above low. absurd (omega arith) })
  in_force (suc n) inside = later (row (place_in text (suc n))) refl (in_force n (omega arith))
    where
      later : (o : Option Row) → row (place_in text (suc n)) ≡ o → (r : Row) × IsInForceAt (from_start row) text n r → (r : Row) × IsInForceAt (from_start row) text (suc n) r
      later (Some r) e before = (r, record { from = suc n; low = omega arith; within = inside; begins = e; none = λ k above low. absurd (omega arith) })
      later None e (r, before) = (
        r,
        record {
          from = before.from;
          low = (let l = before.low in omega arith);
          within = inside;
          begins = before.begins;
          none = λ k above low. go k above (let t : (k ≤ n) ⊎ (k ≡ suc n) = grind arith in t);
        },
      )
        where
          go : (k : ℕ) → before.from < k → (k ≤ n) ⊎ (k ≡ suc n) → from_start row (place_in text k) ≡ None
          go k above (inl at) = before.none k above at
          go k above (inr is) = subst (λ (j : ℕ). from_start row (place_in text j) ≡ None) (sym is) e

pub all_same : (row : Place → Option Row) (texts : List TextSection) → flat_map (rows_in (from_start row)) texts ≡ flat_map (rows_in row) texts
all_same row [] = refl
all_same row (text ∷ texts) =
    let one : rows_in (from_start row) text ++ flat_map (rows_in (from_start row)) texts ≡ rows_in row text ++ flat_map (rows_in (from_start row)) texts = ap (λ (xs : List PlacedRow). xs ++ flat_map (rows_in (from_start row)) texts) (rows_same row text) in
    let two : rows_in row text ++ flat_map (rows_in (from_start row)) texts ≡ rows_in row text ++ flat_map (rows_in row) texts = ap (λ (xs : List PlacedRow). rows_in row text ++ xs) (all_same row texts) in
    one ∙ two

-- what begins a section is one of the rows, or says that nothing is known
pub from_row : (row : Place → Option Row) (place : Place) (r : Row) → from_start row place ≡ Some r → (r ≡ zero_row) ⊎ (row place ≡ Some r)
from_row row place r e = by place.off (row place) refl e
  where
    by : (off : ℕ) (o : Option Row) → row place ≡ o → begun off o ≡ Some r → (r ≡ zero_row) ⊎ (row place ≡ Some r)
    by zero None is e = inl (sym (some_is e))
    by zero (Some s) is e = inr (is ∙ e)
    by (suc off) o is e = inr (is ∙ e)
