-- At each place of the text begins the row that the definition has there.
use Rattle.std.proofs.Common.{◌≡◌, ◌⊎◌, ℕ, ◌<◌, ◌≤◌, Bool, true, false, ◌&&◌, List, Option, Some, None, Contains, if◌then◌else◌, inl, inr, arith, refl, ap, sym, ◌∙◌, subst}
use Rattle.std.specs.Prelude.{◌==◌, option_map, option_and_then, is_some}
use Rattle.std.proofs.lemmas.Bool.{and_parts, eqb-true, both_ways, cases_Bool}
use Rattle.std.proofs.lemmas.Option.{none-some}
use Rattle.ot_base.specs.declared.place.Place.{Place}
use Rattle.ot_base.specs.declared.row.Row.{Row}
use Rattle.ot_base.specs.declared.row.PlacedRow.{PlacedRow}
use Rattle.ot_base.specs.Places.{same_place}
use Rattle.state_defs.specs.declared.state.State.{State}
use Rattle.state_defs.specs.Row.{zero_row, row_of}
use Rattle.machine_defs.specs.Program.{Program, TextSection, Site, IsPoint, in_site, below}
use Rattle.machine_defs.specs.IsProgram.{IsLaidOut}
use Rattle.machine_defs.specs.Kept.{Kept, AreKeptStates}
use Rattle.machine_defs.specs.Broken.{IsAccepted, KeptInSite}
use Rattle.machine_defs.specs.Rows.{row_or_zero, plain_at, kept_at, row_of_point, is_kept_site, row_in_site, row_by, row_at}
use Rattle.unwinding_law.proofs.Lists.{from_below}
use Rattle.table_law.proofs.Lists.{some_is, some_or_none, finds}
use Rattle.table_law.proofs.Equal.{same_place_is, is_same_place}
use Rattle.table_law.proofs.RowAt.{outside_or_in, outside_none, site_found, plain_found, some_kept, row_inside}
use Rattle.program_check.specs.Changes.{AreMerged, AreRowsInSites, BeginsRow, IsRowInSite, IsUnkeptStart, LiesOutside, row_from}

-- the place lies in a text section
pub record IsInTextAt (p : Program) (place : Place) : Type 0 where
  pub text : TextSection
  pub listed : Contains p.texts text
  pub sec : place.sec ≡ text.sec
  pub low : place.off < text.size

module _ (p : Program) (laid : IsLaidOut p) (states : ℕ → Option State) (kept : AreKeptStates p states) (acc : IsAccepted p) (kept_point : (q : ℕ) (s : State) → Kept p q s → IsPoint p q) where
  -- where a point runs there is text
  in_text : (q : ℕ) → IsPoint p q → IsInTextAt p (p.address q)
  in_text q point =
      let w = laid.in_text.within q point in
      record { text = w.0; listed = w.1; sec = sym w.2; low = (let some : 1 ≤ (p.insn q).len = laid.in_text.lengths q point in omega (arith, some, w.3)) }

  -- outside sites a plain point's row begins at its place
  row_outside : (q : ℕ) → IsPoint p q → p.variant q ≡ 0 → LiesOutside p (p.place q) → row_at p states (p.place q) ≡ Some (row_of_point states q)
  row_outside q point plain outside =
      ap (λ (o : Option Site). row_by p states o (p.place q)) (outside_none p laid (p.place q) outside)
      ∙ ap (option_map (row_of_point states)) (plain_found p laid q (p.place q) point plain refl)

  -- where the point at a site's start isn't kept, the site isn't
  start_not_kept : (site : Site) (q : ℕ) → IsPoint p q → p.variant q ≡ 0 → p.place q ≡ site.start → states q ≡ None → is_kept_site p states site ≡ false
  start_not_kept site q point plain at none =
      ap (λ (o : Option ℕ). is_some (option_and_then states o)) (plain_found p laid q site.start point plain at)
      ∙ ap (λ (o : Option State). is_some o) none

  -- at the start of a site that isn't kept a zero row begins
  row_unkept : (q : ℕ) → IsPoint p q → p.variant q ≡ 0 → IsUnkeptStart p states q → row_at p states (p.place q) ≡ Some (row_of_point states q)
  row_unkept q point plain h =
      let start : p.place q ≡ (h.site).start = sym h.start in
      ap (λ (o : Option Site). row_by p states o (p.place q)) (site_found p laid (p.place q) h.site h.listed h.inside)
      ∙ (ap (λ (b : Bool). if b then option_map (row_of_point states) (kept_at p states (p.place q)) else (if same_place (h.site).start (p.place q) then Some zero_row else None)) (start_not_kept h.site q point plain start h.not_kept)
      ∙ (ap (λ (b : Bool). if b then Some zero_row else None) (is_same_place (h.site).start (p.place q) h.start)
      ∙ ap (λ (o : Option State). Some (row_or_zero o)) (sym h.not_kept)))

  module _ (in_sites all : List PlacedRow) (rows : AreRowsInSites p states in_sites) (merged : AreMerged p states in_sites all) where
    -- a row of the list begins at its place
    plain_begins : (x : PlacedRow) (q : ℕ) → IsPoint p q → BeginsRow p states q → x ≡ row_from p states q → (row_at p states x.place ≡ Some x.row) × IsInTextAt p x.place
    plain_begins x q point begins is =
        let row : row_at p states (p.place q) ≡ Some (row_of_point states q) = elim begins.begins [ inl outside ↦ row_outside q point begins.plain outside | inr start ↦ row_unkept q point begins.plain start ] in
        let text : IsInTextAt p (p.place q) = subst (IsInTextAt p) (laid.plain q point begins.plain) (in_text q point) in
        subst (λ (z : PlacedRow). (row_at p states z.place ≡ Some z.row) × IsInTextAt p z.place) (sym is) (row, text)

    site_begins : (x : PlacedRow) → IsRowInSite p states x → (row_at p states x.place ≡ Some x.row) × IsInTextAt p x.place
    site_begins x h =
        let k = h.kept in
        let start : IsPoint p k.plain = kept_point k.plain (k.start_kept).0 (k.start_kept).1 in
        let point : IsPoint p h.point = kept_point h.point h.state k.kept in
        let row : row_at p states (p.address h.point) ≡ Some (row_of h.state) = row_inside p laid states kept h.site k.listed k.plain (k.start_kept).0 start (k.start).1 (k.start).0 (k.start_kept).1 acc h.point h.state point k.inside k.kept in
        let same : row_of h.state ≡ x.row = sym (ap row_or_zero ((kept h.point h.state).1 k.kept)) ∙ sym h.row in
        (subst (λ (z : Place). row_at p states z ≡ Some x.row) h.place (row ∙ ap Some same), subst (IsInTextAt p) h.place (in_text h.point point))

    pub begins : (x : PlacedRow) → Contains all x → (row_at p states x.place ≡ Some x.row) × IsInTextAt p x.place
    begins x c = elim (merged.each x c) [ inl q ↦ plain_begins x q.0 q.1 q.2 q.3 | inr s ↦ site_begins x (rows.each x s) ]

    -- some row of the list begins at a place
    abbrev BeginsAt : Place → Type 0
    BeginsAt place = (x : PlacedRow) × Contains all x × (x.place ≡ place)

    -- what a search for the plain point at a place finds
    plain_is : (place : Place) (q : ℕ) → (p.variant q == 0 && same_place (p.place q) place) ≡ true → (p.variant q ≡ 0) × (p.place q ≡ place)
    plain_is place q h = let k = and_parts (p.variant q == 0) _ h in (eqb-true (p.variant q) 0 k.0, same_place_is (p.place q) place k.1)

    some_outside : (place : Place) (r : Row) → LiesOutside p place → row_at p states place ≡ Some r → BeginsAt place
    some_outside place r outside row =
        let e : option_map (row_of_point states) (plain_at p place) ≡ Some r = sym (ap (λ (o : Option Site). row_by p states o place) (outside_none p laid place outside)) ∙ row in
        elim (finds (λ (q : ℕ). p.variant q == 0 && same_place (p.place q) place) (below p.count)) [
          | inl none ↦ absurd (none-some r (sym (ap (option_map (row_of_point states)) none.0) ∙ e))
          | inr one ↦
              let q : ℕ = one.0 in
              let at = plain_is place q one.3 in
              let begins_row : BeginsRow p states q = record { plain = at.0; begins = inl (subst (LiesOutside p) (sym at.1) outside) } in
              (row_from p states q, merged.plain q (from_below p.count q one.2) begins_row, at.1)
        ]

    -- in a kept site
    some_kept_site : (site : Site) (place : Place) (r : Row) → Contains p.sites site → in_site site place ≡ true → is_kept_site p states site ≡ true → option_map (row_of_point states) (kept_at p states place) ≡ Some r → BeginsAt place
    some_kept_site site place r listed inside is_kept row =
        elim (finds (λ (q : ℕ). is_some (states q) && same_place (p.address q) place) (below p.count)) [
          | inl none ↦ absurd (none-some r (sym (ap (option_map (row_of_point states)) none.0) ∙ row))
          | inr one ↦ at_point one.0 (let k = and_parts (is_some (states one.0)) _ one.3 in (k.0, same_place_is (p.address one.0) place k.1))
        ]
      where
        start_is : (q : ℕ) × (p.variant q ≡ 0) × (p.place q ≡ site.start) × ((s : State) × Kept p q s)
        start_is =
            elim (finds (λ (q : ℕ). p.variant q == 0 && same_place (p.place q) site.start) (below p.count)) [
              | inl none ↦ absurd (let e : is_some (option_and_then states (plain_at p site.start)) ≡ false = ap (λ (o : Option ℕ). is_some (option_and_then states o)) none.0 in both_ways _ e is_kept)
              | inr one ↦
                  let at = plain_is site.start one.0 one.3 in
                  (one.0, at.0, at.1, some_kept p laid states kept one.0 (sym (ap (λ (o : Option ℕ). is_some (option_and_then states o)) one.1) ∙ is_kept))
            ]

        at_point : (q : ℕ) → (is_some (states q) ≡ true) × (p.address q ≡ place) → BeginsAt place
        at_point q (some, at) =
            let start = start_is in
            let s = some_kept p laid states kept q some in
            let k : KeptInSite p site q s.0 = record { listed = listed; plain = start.0; start = (start.2, start.1); start_kept = start.3; inside = subst (λ (z : Place). in_site site z ≡ true) (sym at) inside; kept = s.1 } in
            let x = rows.all site q s.0 k in
            (x.0, merged.sites x.0 x.1, x.2 ∙ at)

    -- in another
    some_unkept_site : (site : Site) (place : Place) (r : Row) → Contains p.sites site → in_site site place ≡ true → is_kept_site p states site ≡ false → (if same_place site.start place then Some zero_row else None) ≡ Some r → BeginsAt place
    some_unkept_site site place r listed inside is_kept row = go (cases_Bool (same_place site.start place))
      where
        at_start : site.start ≡ place → BeginsAt place
        at_start e =
            let q = laid.site_starts site listed in
            let none : states q.0 ≡ None = elim (some_or_none (states q.0)) [
              | inl n ↦ n
              | inr s ↦ absurd (both_ways (is_kept_site p states site) is_kept (ap (λ (o : Option ℕ). is_some (option_and_then states o)) (plain_found p laid q.0 site.start q.1 q.2 q.3) ∙ ap (λ (o : Option State). is_some o) s.1))
            ] in
            let here : place ≡ p.place q.0 = sym (q.3 ∙ e) in
            let start : IsUnkeptStart p states q.0 = record { site = site; listed = listed; start = sym q.3; inside = subst (λ (z : Place). in_site site z ≡ true) here inside; not_kept = none } in
            (row_from p states q.0, merged.plain q.0 q.1 (record { plain = q.2; begins = inr start }), sym here)

        go : (same_place site.start place ≡ true) ⊎ (same_place site.start place ≡ false) → BeginsAt place
        go (inl same) = at_start (same_place_is site.start place same)
        go (inr other) = absurd (none-some r (sym (ap (λ (b : Bool). if b then Some zero_row else None) other) ∙ row))

    some_inside : (site : Site) (place : Place) (r : Row) → Contains p.sites site → in_site site place ≡ true → row_in_site p states site place ≡ Some r → BeginsAt place
    some_inside site place r listed inside row = elim (cases_Bool (is_kept_site p states site)) [
      | inl yes_kept ↦ some_kept_site site place r listed inside yes_kept (sym (ap (λ (b : Bool). if b then option_map (row_of_point states) (kept_at p states place) else (if same_place site.start place then Some zero_row else None)) yes_kept) ∙ row)
      | inr not_kept ↦ some_unkept_site site place r listed inside not_kept (sym (ap (λ (b : Bool). if b then option_map (row_of_point states) (kept_at p states place) else (if same_place site.start place then Some zero_row else None)) not_kept) ∙ row)
    ]

    -- each row that begins is in the list
    pub listed_row : (x : PlacedRow) → row_at p states x.place ≡ Some x.row → Contains all x
    listed_row x row =
        let y = elim (outside_or_in p laid x.place) as (λ _. BeginsAt x.place) [
          | inl out ↦ some_outside x.place x.row out.1 row
          | inr site ↦ some_inside site.0 x.place x.row site.2 site.3 (sym (ap (λ (o : Option Site). row_by p states o x.place) site.1) ∙ row)
        ] in
        let there : row_at p states (y.0).place ≡ Some (y.0).row = (begins y.0 y.1).0 in
        let same : (y.0).row ≡ x.row = some_is (sym there ∙ (ap (row_at p states) y.2 ∙ row)) in
        subst (λ (z : PlacedRow). Contains all z) (placed_same y.0 x y.2 same) y.1
      where
        placed_same : (y x : PlacedRow) → y.place ≡ x.place → y.row ≡ x.row → y ≡ x
        placed_same y x e f = ap (λ (z : Place). let w : PlacedRow = record { place = z; row = y.row } in w) e ∙ ap (λ (z : Row). let w : PlacedRow = record { place = x.place; row = z } in w) f
