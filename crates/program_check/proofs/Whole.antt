-- The rows that begin are those of all sections, one section after another.
use Rattle.std.proofs.Common.{◌≡◌, ℕ, suc, ◌<◌, List, [], ◌∷◌, Option, Some, None, Contains, get_or, flat_map, inl, inr, arith, refl, ap, sym, ◌∙◌, subst}
use Rattle.std.specs.List.{AllPairs}
use Rattle.std.specs.Prelude.{option_map}
use Rattle.std.proofs.lemmas.Option.{none-some}
use Rattle.ot_base.specs.declared.place.Place.{Place}
use Rattle.ot_base.specs.declared.row.Row.{Row}
use Rattle.ot_base.specs.declared.row.PlacedRow.{PlacedRow}
use Rattle.state_defs.specs.declared.state.State.{State}
use Rattle.machine_defs.specs.Program.{Program, TextSection, IsPoint, below}
use Rattle.machine_defs.specs.IsProgram.{IsLaidOut}
use Rattle.machine_defs.specs.Kept.{Kept, AreKeptStates}
use Rattle.machine_defs.specs.Broken.{IsAccepted}
use Rattle.machine_defs.specs.Rows.{placed, place_in, row_at, all_rows}
use Rattle.unwinding_law.proofs.Lists.{here, there, in_below, in_flat_map, from_flat_map}
use Rattle.table_law.proofs.Lists.{some_is, in_filter_map}
use Rattle.table_law.proofs.Equal.{equal_places}
use Rattle.table_law.proofs.Compress.{Rises, rises_below}
use Rattle.table_law.proofs.Sections.{IsRowIn, row_from, is_row}
use Rattle.program_check.specs.Changes.{Ascends, AreMerged, AreRowsInSites}
use Rattle.program_check.proofs.Places.{before_from}
use Rattle.program_check.proofs.Lists.{ascends_append, same_rows}
use Rattle.program_check.proofs.Begins.{IsInTextAt, begins, listed_row}

module _ (p : Program) (states : ℕ → Option State) where
  -- the rows of a section are in it
  pub in_section : (text : TextSection) (x : PlacedRow) → Contains (all_rows p states text) x → x.place.sec ≡ text.sec
  in_section text x c = ap (λ (z : Place). z.sec) (is_row (row_at p states) text x c).place

  -- rows of a section that rise ascend
  rising : (sec : ℕ) (xs : List PlacedRow) → ((x : PlacedRow) → Contains xs x → x.place.sec ≡ sec) → Rises xs → Ascends xs
  rising sec [] inside up = tt
  rising sec (x ∷ xs) inside up = (
    (λ y c. before_from x.place y.place (inr (inside x (here x xs) ∙ sym (inside y (there x xs y c)), up.0 y c))),
    rising sec xs (λ y c. inside y (there x xs y c)) up.1,
  )

  offset_is : (text : TextSection) (off : ℕ) (o : Option Row) (x : PlacedRow) → option_map (placed (place_in text off)) o ≡ Some x → x.place.off ≡ off
  offset_is text off None x e = absurd (none-some _ e)
  offset_is text off (Some r) x e = sym (ap (λ (z : PlacedRow). z.place.off) (some_is e))

  section_ascends : (text : TextSection) → Ascends (all_rows p states text)
  section_ascends text = rising text.sec (all_rows p states text) (in_section text) (rises_below (row_from (row_at p states) text) (λ off x e. offset_is text off (row_at p states (place_in text off)) x e) text.size)

  -- the rows of ascending sections
  all_ascend : (texts : List TextSection) → AllPairs (λ one other. one.sec < other.sec) texts → Ascends (flat_map (all_rows p states) texts)
  all_ascend [] up = tt
  all_ascend (text ∷ texts) up =
      ascends_append (all_rows p states text) (flat_map (all_rows p states) texts) (section_ascends text) (all_ascend texts (λ i j d l inside. up (suc i) (suc j) d (omega arith) (omega arith)))
      (λ x y c d.
      let other = from_flat_map (all_rows p states) texts y d in
      before_from x.place y.place (inl (across text texts up other.0 other.1 x.place.sec y.place.sec (in_section text x c) (in_section other.0 y other.2))))
    where
      across : (text : TextSection) (texts : List TextSection) → AllPairs (λ one other. one.sec < other.sec) (text ∷ texts) → (other : TextSection) → Contains texts other → (a b : ℕ) → a ≡ text.sec → b ≡ other.sec → a < b
      across text texts up other (k, l, e) a b f g =
          let h : text.sec < (get_or texts k other).sec = up 0 (suc k) other (omega arith) (omega arith) in
          let same : (get_or texts k other).sec ≡ other.sec = ap (λ (t : TextSection). t.sec) e in
          omega (arith, h, same, f, g)

  -- a row of a section at its place
  in_rows : (text : TextSection) (x : PlacedRow) → x.place.sec ≡ text.sec → x.place.off < text.size → row_at p states x.place ≡ Some x.row → Contains (all_rows p states text) x
  in_rows text x sec low row =
      let place : place_in text x.place.off ≡ x.place = equal_places (place_in text x.place.off) x.place (sym sec) refl in
      in_filter_map (row_from (row_at p states) text) (below text.size) x.place.off x (in_below text.size x.place.off low)
      (ap (λ (z : Place). option_map (placed z) (row_at p states z)) place ∙ ap (option_map (placed x.place)) row)

  module _ (laid : IsLaidOut p) (kept : AreKeptStates p states) (acc : IsAccepted p) (kept_point : (q : ℕ) (s : State) → Kept p q s → IsPoint p q) where
    -- the rows that begin are those of all sections
    pub all_is : (in_sites all : List PlacedRow) → AreRowsInSites p states in_sites → AreMerged p states in_sites all → all ≡ flat_map (all_rows p states) p.texts
    all_is in_sites all rows merged = same_rows all (flat_map (all_rows p states) p.texts) merged.ascend (all_ascend p.texts laid.sections)
        (λ x c.
        let h = begins p laid states kept acc kept_point in_sites all rows merged x c in
        let text : IsInTextAt p x.place = h.1 in
        in_flat_map (all_rows p states) p.texts text.text x text.listed (in_rows text.text x text.sec text.low h.0))
        (λ x c.
        let t = from_flat_map (all_rows p states) p.texts x c in
        let r : IsRowIn (row_at p states) t.0 x = is_row (row_at p states) t.0 x t.2 in
        listed_row p laid states kept acc kept_point in_sites all rows merged x (subst (λ (z : Place). row_at p states z ≡ Some x.row) (sym r.place) r.row_is))
