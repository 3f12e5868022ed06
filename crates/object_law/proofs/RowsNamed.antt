-- The rows of an object in order lie in sections in which symbols are defined: a section with rows has a kept point.
use Rattle.std.proofs.Common.{◌≡◌, ℕ, Bool, true, false, ◌&&◌, cond, List, [], ◌∷◌, Option, Some, None, Contains, refl, sym, ap, ◌∙◌, subst, inl, inr}
use Rattle.std.specs.Prelude.{All, is_some, option_map, ◌==◌}
use Rattle.std.proofs.lemmas.Bool.{eqb-true, false≢true}
use Rattle.ot_base.specs.NameLists.{NameLists}
use Rattle.ot_base.specs.Rows.{same_row}
use Rattle.ot_base.specs.Section.{TextSection}
use Rattle.ot_base.specs.declared.place.Place.{Place}
use Rattle.ot_base.specs.declared.row.PlacedRow.{PlacedRow}
use Rattle.ot_base.specs.declared.row.Row.{Row}
use Rattle.ot_base.specs.Places.{same_place}
use Rattle.flow_defs.specs.Coded.{Coded}
use Rattle.state_defs.specs.declared.state.State.{State}
use Rattle.state_defs.specs.Row.{zero_row}
use Rattle.machine_defs.specs.IsProgram.{IsLaidOut}
use Rattle.machine_defs.specs.Program.{Program, Site, below}
use Rattle.machine_defs.specs.Kept.{AreKeptStates, Kept}
use Rattle.machine_defs.specs.Rows.{is_kept_site, kept_at, plain_at, place_in, row_at, row_by, row_in_site, row_of_point, row_or_zero, rows_of, section_rows, site_at, without_repeats}
use Rattle.unwinding_law.proofs.Lists.{all_of, from_below, from_flat_map, here, nowhere, there}
use Rattle.table_law.proofs.Equal.{same_place_is}
use Rattle.table_law.proofs.Lists.{finds, some_is}
use Rattle.table_law.proofs.Sections.{end_in, from_ended, is_row, left_is_row, rows_at, rows_left}
use Rattle.flow_defs.specs.Program.{program_of}
use Rattle.object_law.specs.Flows.{ObjectIsInOrder}
use Rattle.object_law.proofs.LaidOut.{laid_out}
use Rattle.object_law.proofs.Levels.{and_true}
use Rattle.object_law.specs.Named.{IsNamed}
use Rattle.object_law.proofs.KeptNamed.{kept_named}

-- a row that differs from another
record Differs (before : Row) (rows : List PlacedRow) : Type 0 where
  row : PlacedRow
  listed : Contains rows row
  other : same_row before row.row ≡ false

-- where rows are left without repeats, one differs from the one before them
some_differs : (before : Row) (rows : List PlacedRow) (left : PlacedRow) → Contains (without_repeats before rows) left → Differs before rows
some_differs before [] left c = nowhere left c
some_differs before (x ∷ xs) left c = go (same_row before x.row) refl c (λ d. some_differs before xs left d)
  where
    go : (b : Bool) → same_row before x.row ≡ b → Contains (cond b (without_repeats before xs) (x ∷ without_repeats x.row xs)) left
        → (Contains (without_repeats before xs) left → Differs before xs) → Differs before (x ∷ xs)
    go true e c among = let rest = among c in record { row = rest.row; listed = there x xs rest.row rest.listed; other = rest.other }
    go false e c among = record { row = x; listed = here x xs; other = e }

-- a kept point runs in a section
record HasKept (p : Program) (sec : ℕ) : Type 0 where
  point : ℕ
  state : State
  kept : Kept p point state
  runs : (p.address point).sec ≡ sec

module _ (p : Program) (laid : IsLaidOut p) (states : ℕ → Option State) (kept : AreKeptStates p states) where
  -- a point has another row than the zero row only where it is kept
  point_kept : (q sec : ℕ) → (p.address q).sec ≡ sec → same_row zero_row (row_of_point states q) ≡ false → HasKept p sec
  point_kept q sec runs other = go (states q) refl other
    where
      go : (s : Option State) → states q ≡ s → same_row zero_row (row_or_zero s) ≡ false → HasKept p sec
      go None is e = absurd (false≢true (sym e))
      go (Some s) is e = record { point = q; state = s; kept = (kept q s).0 is; runs = runs }

  -- the point that is found at a place runs in its section
  abbrev RunsThere : Place → Option ℕ → Type 0
  RunsThere place found = (q : ℕ) → found ≡ Some q → (p.address q).sec ≡ place.sec

  plain_runs : (place : Place) → RunsThere place (plain_at p place)
  plain_runs place q is = elim (finds (λ r. p.variant r == 0 && same_place (p.place r) place) (below p.count)) [
    | inl missing ↦ absurd (let e = sym missing.0 ∙ is in let z : ⊥ = cc in z)
    | inr one ↦
        let parts = and_true (p.variant one.0 == 0) (same_place (p.place one.0) place) one.3 in
        let address = laid.plain one.0 (from_below p.count one.0 one.2) (eqb-true (p.variant one.0) 0 parts.0) ∙ same_place_is (p.place one.0) place parts.1 in
        subst (λ r. (p.address r).sec ≡ place.sec) (some_is (sym one.1 ∙ is)) (ap (λ (x : Place). x.sec) address)
  ]

  kept_runs : (place : Place) → RunsThere place (kept_at p states place)
  kept_runs place q is = elim (finds (λ r. is_some (states r) && same_place (p.address r) place) (below p.count)) [
    | inl missing ↦ absurd (let e = sym missing.0 ∙ is in let z : ⊥ = cc in z)
    | inr one ↦
        let parts = and_true (is_some (states one.0)) (same_place (p.address one.0) place) one.3 in
        subst (λ r. (p.address r).sec ≡ place.sec) (some_is (sym one.1 ∙ is)) (ap (λ (x : Place). x.sec) (same_place_is (p.address one.0) place parts.1))
  ]

  found_kept : (place : Place) (found : Option ℕ) (row : Row) → RunsThere place found → option_map (row_of_point states) found ≡ Some row → same_row zero_row row ≡ false → HasKept p place.sec
  found_kept place None row runs is other = absurd (let z : ⊥ = cc in z)
  found_kept place (Some q) row runs is other = point_kept q place.sec (runs q refl) (subst (λ (r : Row). same_row zero_row r ≡ false) (sym (some_is is)) other)

  site_kept : (site : Site) (place : Place) (row : Row) → row_in_site p states site place ≡ Some row → same_row zero_row row ≡ false → HasKept p place.sec
  site_kept site place row is other = by_kept (is_kept_site p states site) (same_place site.start place) is
    where
      by_kept : (b c : Bool) → cond b (option_map (row_of_point states) (kept_at p states place)) (cond c (Some zero_row) None) ≡ Some row → HasKept p place.sec
      by_kept true c is = found_kept place (kept_at p states place) row (kept_runs place) is other
      by_kept false true is = absurd (false≢true (sym (subst (λ (r : Row). same_row zero_row r ≡ false) (sym (some_is is)) other)))
      by_kept false false is = absurd (let z : ⊥ = cc in z)

  -- where another row begins than the zero row a point is kept in the section
  row_kept : (place : Place) (row : Row) → row_at p states place ≡ Some row → same_row zero_row row ≡ false → HasKept p place.sec
  row_kept place row is other = go (site_at p place) is
    where
      go : (site : Option Site) → row_by p states site place ≡ Some row → HasKept p place.sec
      go None is = found_kept place (plain_at p place) row (plain_runs place) is other
      go (Some site) is = site_kept site place row is other

  -- so it is in each section with rows
  section_kept : (text : TextSection) (x : PlacedRow) → Contains (rows_left (row_at p states) text) x → HasKept p text.sec
  section_kept text x c =
      let one = some_differs zero_row (rows_at (row_at p states) text) x c in
      row_kept (place_in text one.row.place.off) one.row.row (is_row (row_at p states) text one.row one.listed).row_is one.other

  -- and each row is one of such a section
  rows_kept : (x : PlacedRow) → Contains (rows_of p states) x → HasKept p x.place.sec
  rows_kept x c =
      let one = from_flat_map (section_rows p states) p.texts x c in
      let text = one.0 in
      let some = (end_in text (rows_left (row_at p states) text) x one.2).1 in
      let sec : x.place.sec ≡ text.sec = elim (from_ended text (rows_left (row_at p states) text) x one.2) [
        | inl left ↦ ap (λ (z : Place). z.sec) (left_is_row (row_at p states) text x left).place
        | inr end ↦ ap (λ (z : PlacedRow). z.place.sec) end
      ] in
      subst (HasKept p) (sym sec) (section_kept text some.0 some.1)

pub rows_named : (o : Coded) (lists : NameLists) (states : ℕ → Option State) → ObjectIsInOrder o → AreKeptStates (program_of o lists) states → All (λ placed. IsNamed o placed.place.sec) (rows_of (program_of o lists) states)
rows_named o lists states order kept = all_of (λ (x : PlacedRow). IsNamed o x.place.sec) (rows_of (program_of o lists) states) each
  where
    each : (x : PlacedRow) → Contains (rows_of (program_of o lists) states) x → IsNamed o x.place.sec
    each x c =
        let has = rows_kept (program_of o lists) (laid_out o lists order) states kept x c in
        subst (λ sec. IsNamed o sec) has.runs (kept_named o lists has.point has.state order has.kept)
