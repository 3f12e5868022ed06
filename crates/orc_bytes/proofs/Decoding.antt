-- Rows that are read one after the other are those of the sections.
use Rattle.std.proofs.Common.{◌≡◌, ◌≢◌, ℕ, zero, suc, ◌+◌, ◌-◌, ◌*◌, ◌/◌, ◌%◌, ◌^◌, ◌<◌, ◌≤◌, ◌⊎◌, List, [], ◌∷◌, ◌++◌, map, length, take, drop, get_or, replicate, Option, Some, None, pos, ℤ, refl, sym, ◌∙◌, ap, subst, inl, inr, FitsSigned, Fits, w16, w64, of_z, to_z, append-nil, length-append, length-drop, arith}
use Rattle.std.proofs.Math.Seq.{take-add}
use Rattle.std.proofs.lemmas.List.{get_or-drop, take_all, take_more, replicate-append-replicate}
use Rattle.std.proofs.lemmas.List.Elements.{All-nil, All-push}
use Rattle.std.proofs.lemmas.List.Concat.{flat_map-append}
use Rattle.std.proofs.lemmas.Option.{slice_get_within, get_or_from_slice_get}
use borrow.Author.Count.{below_more}
use Rattle.std.specs.Prelude.{All, IsSome, slice_get, unwrap_or, flat_map}
use Rattle.ot_base.specs.declared.place.Place.{Place}
use Rattle.ot_base.specs.declared.row.Row.{Row}
use Rattle.ot_base.specs.declared.row.PlacedRow.{PlacedRow}
use Rattle.elf_objects.specs.declared.symbol.Reloc.{Reloc}
use Rattle.elf_objects.specs.Elf.{Elf}
use Rattle.elf_objects.specs.Contents.{section_symbol_of}
use Rattle.elf_objects.specs.Number.{word}
use Rattle.table_defs.specs.Fields.{HasKnownFields}
use Rattle.orc_bytes.specs.RowBytes.{bytes_of_row, IsRow}
use Rattle.orc_bytes.specs.Sections.{IsRowOf, HoldsOrc, row_section, ip_section, slot, slots}
use Rattle.orc_bytes.specs.Faults.{row_in, HasRow, HasPlace, HasParts, HasRowsAndPlaces, OrcParts, row_count, IsRowAt}
use Rattle.orc_bytes.proofs.SlotLemmas.{slots-push}

-- the first i rows were read: these, and there is nothing wrong with them
pub record AreRead (object : Elf) (parts : OrcParts) (i : ℕ) (rows : List PlacedRow) : Type 0 where
  pub table : take (6 * i) parts.table ≡ row_section rows
  pub ips : take (4 * i) parts.ips ≡ ip_section rows
  pub relocs : take i parts.relocs ≡ slots (section_symbol_of object) rows
  pub each : All (IsRowOf object) rows
  pub sound : (k : ℕ) → k < i → IsRowAt object parts k
  pub count : length rows ≡ i

pub none_read : (object : Elf) (parts : OrcParts) → AreRead object parts 0 []
none_read object parts = record {
  table = refl;
  ips = refl;
  relocs = refl;
  each = All-nil (IsRowOf object);
  sound = λ k h. absurd (omega arith);
  count = refl;
}

reloc_alike : (a b c a' b' c' : ℕ) (d d' : ℤ) → a ≡ a' → b ≡ b' → c ≡ c' → d ≡ d' → ◌≡◌ {A = Reloc} (record { offset = a; kind = b; sym = c; addend = d }) (record { offset = a'; kind = b'; sym = c'; addend = d' })
reloc_alike a b c a' b' c' d d' h1 h2 h3 h4 = cc

-- a relocation that tells a place at a row's four bytes is the row's
slot_is : (object : Elf) (parts : OrcParts) (i : ℕ) (placed : PlacedRow) (has : HasPlace object parts i placed.place) → has.slot ≡ slot (section_symbol_of object) (4 * i) placed
slot_is object parts i placed has =
    reloc_alike has.slot.offset has.slot.kind has.slot.sym _ _ _ has.slot.addend _ has.at.offset has.at.kind
    (sym (ap (λ (o : Option ℕ). unwrap_or o 0) has.told.symbol.symbol))
    has.told.addend

four_zeros : (xs : List ℕ) → 4 ≤ length xs → word xs 0 ≡ 0 → take 4 xs ≡ replicate 4 0
unfolding word
four_zeros [] long z = absurd (omega arith)
four_zeros (a ∷ []) long z = absurd (omega arith)
four_zeros (a ∷ b ∷ []) long z = absurd (omega arith)
four_zeros (a ∷ b ∷ c ∷ []) long z = absurd (omega arith)
four_zeros (a ∷ b ∷ c ∷ d ∷ rest) long z =
    let za : a ≡ 0 = omega arith in
    let zb : b ≡ 0 = omega arith in
    let zc : c ≡ 0 = omega arith in
    let zd : d ≡ 0 = omega arith in
    cc (za, zb, zc, zd)

word-drop : (xs : List ℕ) (at : ℕ) → word xs at ≡ word (drop at xs) 0
unfolding word
word-drop xs at = refl

-- the row that is read next
pub next_read : (object : Elf) (parts : OrcParts) (i : ℕ) (rows : List PlacedRow) (placed : PlacedRow)
    → bytes_of_row placed.row ≡ take 6 (drop (6 * i) parts.table)
    → AreRead object parts i rows → HasRowsAndPlaces parts → i < row_count parts
    → HasRow (drop (6 * i) parts.table) → placed.row ≡ row_in (drop (6 * i) parts.table)
    → FitsSigned w16 placed.row.sp_offset → FitsSigned w16 placed.row.bp_offset
    → HasPlace object parts i placed.place → placed.place.off < 2 ^ 63
    → AreRead object parts (i + 1) (rows ++ placed ∷ [])
next_read object parts i rows placed six read counts inside has is sp bp place near = record {
  table = table;
  ips = ips;
  relocs = relocs;
  each = All-push (IsRowOf object) rows placed read.each one;
  sound = below_more (λ (k : ℕ). IsRowAt object parts k) i read.sound here;
  count = length-append rows (placed ∷ []) ∙ ap (λ (n : ℕ). n + 1) read.count;
}
  where
    ips_long : length parts.ips ≡ 4 * row_count parts
    ips_long = let h = counts.places in let k = counts.counts in omega arith

    here : IsRowAt object parts i
    here = record { row = has; place = placed.place; told = place }

    one : IsRowOf object placed
    one = record {
      section = place.told.section;
      at = place.told.symbol.at;
      text = place.told.symbol.text;
      symbol = subst IsSome (sym place.told.symbol.symbol) refl;
      inside = place.told.inside;
      addend = near;
      row = record {
        fields = subst HasKnownFields (sym is) has.fields;
        sp_offset = sp;
        bp_offset = bp;
      };
    }

    table : take (6 * (i + 1)) parts.table ≡ row_section (rows ++ placed ∷ [])
    table =
        ap (λ (n : ℕ). take n parts.table) (omega arith)
        ∙ take-add (6 * i) 6 parts.table
        ∙ cc (read.table, six)
        ∙ sym (flat_map-append (λ (p : PlacedRow). bytes_of_row p.row) rows (placed ∷ []) ∙ ap (λ bytes. row_section rows ++ bytes) (append-nil (bytes_of_row placed.row)))

    four : take 4 (drop (4 * i) parts.ips) ≡ replicate 4 0
    four = four_zeros (drop (4 * i) parts.ips) (omega (arith, length-drop (4 * i) parts.ips, ips_long)) (sym (word-drop parts.ips (4 * i)) ∙ place.zero)

    ips : take (4 * (i + 1)) parts.ips ≡ ip_section (rows ++ placed ∷ [])
    ips =
        let longer : length (rows ++ placed ∷ []) ≡ length rows + 1 = length-append rows (placed ∷ []) in
        ap (λ (n : ℕ). take n parts.ips) (omega arith)
        ∙ take-add (4 * i) 4 parts.ips
        ∙ cc (read.ips, four)
        ∙ replicate-append-replicate (4 * length rows) 4 0
        ∙ ap (λ (n : ℕ). replicate n 0) (omega (arith, longer))

    relocs : take (i + 1) parts.relocs ≡ slots (section_symbol_of object) (rows ++ placed ∷ [])
    relocs =
        let within : i < length parts.relocs = slice_get_within parts.relocs i place.slot place.at.own.there in
        let at : get_or parts.relocs i place.slot ≡ slot (section_symbol_of object) (4 * length rows) placed = get_or_from_slice_get parts.relocs i place.slot place.slot place.at.own.there ∙ slot_is object parts i placed place ∙ ap (λ (n : ℕ). slot (section_symbol_of object) (4 * n) placed) (sym read.count) in
        take_more parts.relocs i place.slot within
        ∙ cc (read.relocs, at)
        ∙ sym (slots-push (section_symbol_of object) rows placed)

-- all rows
pub all_read : (object : Elf) (parts : OrcParts) (rows : List PlacedRow)
    → HasParts object parts → HasRowsAndPlaces parts → AreRead object parts (row_count parts) rows
    → (row_count parts ≡ 0 → length parts.relocs ≡ 0)
    → HoldsOrc object rows
all_read object parts rows has counts read no_more = record {
  table = has.table ∙ ap (λ xs. Some xs) (sym (take_all (6 * row_count parts) parts.table rows_long) ∙ read.table);
  ip = has.ips ∙ ap (λ xs. Some xs) (sym (take_all (4 * row_count parts) parts.ips ips_long) ∙ read.ips);
  relocs = has.relocs ∙ ap (λ xs. Some xs) (sym (take_all (row_count parts) parts.relocs (relocs_long (row_count parts) refl)) ∙ read.relocs);
  each = read.each;
}
  where
    rows_long : length parts.table ≤ 6 * row_count parts
    rows_long = let h = counts.rows in omega arith

    ips_long : length parts.ips ≤ 4 * row_count parts
    ips_long = let h = counts.places in let k = counts.counts in omega arith

    relocs_long : (n : ℕ) → n ≡ row_count parts → length parts.relocs ≤ row_count parts
    relocs_long zero e = let none = no_more (sym e) in omega arith
    relocs_long (suc n) e =
        let last = read.sound n (omega arith) in
        last.told.at.own.no_more (omega arith)

-- what is left of a list from an offset on
pub tail_is : (at : ℕ) (xs : List ℕ) → take (length xs - at) (drop at xs) ≡ drop at xs
tail_is at xs = take_all (length xs - at) (drop at xs) (let e = length-drop at xs in omega (arith, e))

pub row_tail : (at : ℕ) (xs : List ℕ) → HasRow (take (length xs - at) (drop at xs)) → HasRow (drop at xs)
row_tail at xs h = subst HasRow (tail_is at xs) h

pub six_tail : (at : ℕ) (xs bytes : List ℕ) → bytes ≡ take 6 (take (length xs - at) (drop at xs)) → bytes ≡ take 6 (drop at xs)
six_tail at xs bytes e = e ∙ ap (take 6) (tail_is at xs)

pub no_row_tail : (at : ℕ) (xs : List ℕ) → (HasRow (take (length xs - at) (drop at xs)) → ⊥) → HasRow (drop at xs) → ⊥
no_row_tail at xs none h = none (subst HasRow (sym (tail_is at xs)) h)

pub row_tail_is : (at : ℕ) (xs : List ℕ) (row : Row) → row ≡ row_in (take (length xs - at) (drop at xs)) → row ≡ row_in (drop at xs)
row_tail_is at xs row e = e ∙ ap row_in (tail_is at xs)
