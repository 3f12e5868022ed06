-- Several sections: the row in force at a place of one of them is found at the place's address.
use Rattle.std.proofs.Common.{◌≡◌, ◌≢◌, ℕ, ◌+◌, ◌<◌, ◌≤◌, ◌⊎◌, true, List, Option, Some, None, Contains, flat_map, sym, ap, ◌∙◌, subst, inl, inr, arith}
use Rattle.ot_base.specs.declared.place.Place.{Place}
use Rattle.ot_base.specs.declared.row.Row.{Row}
use Rattle.ot_base.specs.declared.row.PlacedRow.{PlacedRow}
use Rattle.state_defs.specs.Row.{zero_row}
use Rattle.machine_defs.specs.Program.{TextSection}
use Rattle.machine_defs.specs.Machine.{Bases, HasAddress}
use Rattle.table_defs.specs.declared.range.Range.{Range}
use Rattle.table_defs.specs.Placement.{address_of}
use Rattle.table_defs.specs.Lookup.{comes_before, find_row}
use Rattle.table_defs.specs.WalkLaws.{FoundIsLast, NoneFoundIsNone}
use Rattle.unwinding_law.proofs.Lists.{in_flat_map, from_flat_map}
use Rattle.table_law.proofs.Lists.{some_is}
use Rattle.table_law.proofs.Compress.{IsLastUpTo, AllAbove}
use Rattle.table_law.proofs.Lookup.{at_address, before_above, zero_before, Lies, AllGiveWay, finds_row, finds_some}
use Rattle.table_law.proofs.Sections.{end_row, in_ended, from_ended, end_in, rows_left, rows_in, left_is_row, IsInForceAt, last_left}

-- sections that are placed, and apart
pub record ArePlaced (texts : List TextSection) (bases : Bases) (ranges : List Range) : Type 0 where
  pub addresses : (text : TextSection) (place : Place) → Contains texts text → place.sec ≡ text.sec → address_of ranges place ≡ Some (bases place.sec + place.off)
  pub apart : (one other : TextSection) (address : ℕ) → Contains texts one → Contains texts other → HasAddress bases one address → HasAddress bases other address → one ≡ other
  pub numbers : (one other : TextSection) → Contains texts one → Contains texts other → one.sec ≡ other.sec → one ≡ other

module _ (row : Place → Option Row) (texts : List TextSection) (bases : Bases) (ranges : List Range) (placed : ArePlaced texts bases ranges) where
  -- the rows of all sections
  abbrev pub all_rows_by : List PlacedRow
  all_rows_by = flat_map (rows_in row) texts

  -- where a row of the table lies
  record LiesIn (x : PlacedRow) (at : ℕ) : Type 0 where
    text : TextSection
    section : Contains texts text
    listed : Contains (rows_in row text) x
    at_is : at ≡ bases text.sec + x.place.off

  -- a row of a section lies in it or at its end
  sec_in : (text : TextSection) (x : PlacedRow) → Contains (rows_in row text) x → (x.place.sec ≡ text.sec) × (x.place.off ≤ text.size)
  sec_in text x c = elim (from_ended text (rows_left row text) x c) [
    | inl d ↦ let k = left_is_row row text x d in (ap (λ (z : Place). z.sec) k.place, let l = k.low in omega arith)
    | inr e ↦ (ap (λ (z : PlacedRow). z.place.sec) e, let k : x.place.off ≡ text.size = ap (λ (z : PlacedRow). z.place.off) e in omega arith)
  ]

  -- it lies at its address
  lies : (address : ℕ) (text : TextSection) (x : PlacedRow) → Contains texts text → Contains (rows_in row text) x → bases text.sec + x.place.off ≤ address → Lies all_rows_by ranges address x (bases text.sec + x.place.off)
  lies address text x c d low =
      let k = (sec_in text x d).0 in
      record {
        listed = in_flat_map (rows_in row) texts text x c d;
        placed = placed.addresses text x.place c k ∙ ap (λ (n : ℕ). Some (bases n + x.place.off)) k;
        low = low;
      }

  -- a row of the table is one of a section
  lies_in : (address : ℕ) (x : PlacedRow) (at : ℕ) → Lies all_rows_by ranges address x at → LiesIn x at
  lies_in address x at h =
      let r = from_flat_map (rows_in row) texts x h.listed in
      let k = (sec_in r.0 x r.2).0 in
      record {
        text = r.0;
        section = r.1;
        listed = r.2;
        at_is = some_is (sym h.placed ∙ (placed.addresses r.0 x.place r.1 k ∙ ap (λ (n : ℕ). Some (bases n + x.place.off)) k));
      }

  module _ (found : FoundIsLast) (none : NoneFoundIsNone) (text : TextSection) (off : ℕ) (section : Contains texts text) (within : off < text.size) where
    -- another section with a byte that begins at or below lies below
    ends_below : (other : TextSection) → Contains texts other → 1 ≤ other.size → bases other.sec ≤ bases text.sec + off → other.sec ≢ text.sec → bases other.sec + other.size ≤ bases text.sec
    ends_below other c long low ne = go (let t : (bases other.sec + other.size ≤ bases text.sec) ⊎ (((bases other.sec ≤ bases text.sec) × (bases text.sec < bases other.sec + other.size)) ⊎ (bases text.sec < bases other.sec)) = grind arith in t)
      where
        go : (bases other.sec + other.size ≤ bases text.sec) ⊎ (((bases other.sec ≤ bases text.sec) × (bases text.sec < bases other.sec + other.size)) ⊎ (bases text.sec < bases other.sec)) → bases other.sec + other.size ≤ bases text.sec
        go (inl h) = h
        go (inr (inl h)) = absurd (ne (ap (λ (s : TextSection). s.sec) (placed.apart other text (bases text.sec) c section (record { from = h.0; below = h.1 }) (record { from = omega arith; below = omega (arith, within) }))))
        go (inr (inr h)) = absurd (ne (ap (λ (s : TextSection). s.sec) (placed.apart other text (bases other.sec) c section (record { from = omega arith; below = omega (arith, long) }) (record { from = omega (arith, h); below = omega (arith, low, within) }))))

    -- what a row of the table at or below the address is: a row of this section; or of another that lies
    -- below, its last one or not
    data IsAtOrBelow (x : PlacedRow) (at : ℕ) : Type 0 where
      of_this : Contains (rows_left row text) x → x.place.off ≤ off → at ≡ bases text.sec + x.place.off → IsAtOrBelow x at
      not_last : (y : PlacedRow) (b : ℕ) → Lies all_rows_by ranges (bases text.sec + off) y b → at < b → IsAtOrBelow x at
      ends_other : x.row ≡ zero_row → at ≤ bases text.sec → IsAtOrBelow x at

    -- of this section
    in_this : (x : PlacedRow) (at : ℕ) → Contains (rows_in row text) x → at ≡ bases text.sec + x.place.off → at ≤ bases text.sec + off → IsAtOrBelow x at
    in_this x at c e low = elim (from_ended text (rows_left row text) x c) [
      | inl d ↦ of_this d (omega arith) e
      | inr k ↦ let l : x.place.off ≡ text.size = ap (λ (z : PlacedRow). z.place.off) k in absurd (omega arith)
    ]

    -- of another section
    in_other : (other : TextSection) (x : PlacedRow) (at : ℕ) → Contains texts other → Contains (rows_in row other) x → other.sec ≢ text.sec → at ≡ bases other.sec + x.place.off → at ≤ bases text.sec + off → IsAtOrBelow x at
    in_other other x at c d ne e low =
        let some = end_in other (rows_left row other) x d in
        let one = left_is_row row other some.1.0 some.1.1 in
        let long : 1 ≤ other.size = let l = one.low in omega arith in
        let below : bases other.sec + other.size ≤ bases text.sec = ends_below other c long (omega arith) ne in
        elim (from_ended other (rows_left row other) x d) [
          | inl k ↦
              let l : x.place.off < other.size = (left_is_row row other x k).low in
              not_last (end_row other) (bases other.sec + other.size) (lies (bases text.sec + off) other (end_row other) c some.0 (omega (arith, below))) (omega (arith, l))
          | inr k ↦
              let l : x.place.off ≡ other.size = ap (λ (z : PlacedRow). z.place.off) k in
              ends_other (ap (λ (z : PlacedRow). z.row) k) (omega (arith, below))
        ]

    -- of any
    at_or_below : (x : PlacedRow) (at : ℕ) → Lies all_rows_by ranges (bases text.sec + off) x at → IsAtOrBelow x at
    at_or_below x at h =
        let k = lies_in (bases text.sec + off) x at h in
        go k (let t : (k.text.sec ≡ text.sec) ⊎ (k.text.sec ≢ text.sec) = grind arith in t)
      where
        go : (k : LiesIn x at) → (k.text.sec ≡ text.sec) ⊎ (k.text.sec ≢ text.sec) → IsAtOrBelow x at
        go k (inl e) =
            let same = placed.numbers k.text text k.section section e in
            in_this x at (subst (λ (s : TextSection). Contains (rows_in row s) x) same k.listed) (subst (λ (s : TextSection). at ≡ bases s.sec + x.place.off) same k.at_is) h.low
        go k (inr ne) = in_other k.text x at k.section k.listed ne k.at_is h.low

    -- where a row of these contents is the last of this section at or below, the others give way
    give_way : (r : Row) → (r ≡ zero_row) ⊎ (r.kind ≢ 0) → (x : PlacedRow) → IsLastUpTo off (rows_left row text) x → x.row ≡ r → AllGiveWay all_rows_by ranges (bases text.sec + off) r
    give_way r kind x last is y at h = go (at_or_below y at h)
      where
        low : bases text.sec + x.place.off ≤ bases text.sec + off
        low = let l = last.low in omega arith

        here : Lies all_rows_by ranges (bases text.sec + off) x (bases text.sec + x.place.off)
        here = lies (bases text.sec + off) text x section (in_ended text (rows_left row text) x last.listed) low

        go : IsAtOrBelow y at → (y.row ≡ r) ⊎ ((z : PlacedRow) × (b : ℕ) × Lies all_rows_by ranges (bases text.sec + off) z b × (comes_before (at_address at y.row) (at_address b z.row) ≡ true))
        go (of_this c l e) = elim (last.last y c l) [
          | inl m ↦ inr (x, bases text.sec + x.place.off, here, before_above at (bases text.sec + x.place.off) y.row x.row (omega arith))
          | inr same ↦ inl (ap (λ (z : PlacedRow). z.row) same ∙ is)
        ]
        go (not_last z b k l) = inr (z, b, k, before_above at b y.row z.row l)
        go (ends_other e l) = elim kind [
          | inl zero ↦ inl (e ∙ sym zero)
          | inr known ↦ inr (
            x,
            bases text.sec + x.place.off,
            here,
            subst (λ (s : Row). comes_before (at_address at s) (at_address (bases text.sec + x.place.off) x.row) ≡ true) (sym e) (zero_before at (bases text.sec + x.place.off) x.row (omega arith) (subst (λ (s : Row). s.kind ≢ 0) (sym is) known)),
          )
        ]

    -- where all rows of this section lie above, those below say that nothing is known
    nothing_known : AllAbove off (rows_left row text) → AllGiveWay all_rows_by ranges (bases text.sec + off) zero_row
    nothing_known above y at h = go (at_or_below y at h)
      where
        go : IsAtOrBelow y at → (y.row ≡ zero_row) ⊎ ((z : PlacedRow) × (b : ℕ) × Lies all_rows_by ranges (bases text.sec + off) z b × (comes_before (at_address at y.row) (at_address b z.row) ≡ true))
        go (of_this c l e) = let m : off < y.place.off = above y c in absurd (omega arith)
        go (not_last z b k l) = inr (z, b, k, before_above at b y.row z.row l)
        go (ends_other e l) = inl e

    -- The row in force at a place is found at its address, or it says that nothing is known and none is found.
    pub finds_in_force : (r : Row) → (r ≡ zero_row) ⊎ (r.kind ≢ 0) → IsInForceAt row text off r → (find_row all_rows_by ranges (bases text.sec + off) ≡ Some r) ⊎ ((r ≡ zero_row) × (find_row all_rows_by ranges (bases text.sec + off) ≡ None))
    finds_in_force r kind h = elim (last_left row text off r h) [
      | inl k ↦ elim (finds_row all_rows_by ranges (bases text.sec + off) found r (give_way r kind k.0 k.1 k.2)) [
        | inl e ↦ inl e
        | inr e ↦ absurd (finds_some all_rows_by ranges (bases text.sec + off) none k.0 (bases text.sec + (k.0).place.off) (lies (bases text.sec + off) text k.0 section (in_ended text (rows_left row text) k.0 k.1.listed) (let l = k.1.low in omega arith)) e)
      ]
      | inr k ↦ elim (finds_row all_rows_by ranges (bases text.sec + off) found zero_row (nothing_known k.1)) [ inl e ↦ inl (e ∙ ap Some (sym k.0)) | inr e ↦ inr (k.0, e) ]
    ]
