-- ORC sections that hold rows have no fault.
use Rattle.std.proofs.Common.{◌≡◌, ◌≢◌, ℕ, zero, suc, ◌+◌, ◌-◌, ◌*◌, ◌/◌, ◌%◌, ◌^◌, ◌<◌, ◌≤◌, List, [], ◌∷◌, ◌++◌, map, length, take, drop, get_or, replicate, Option, Some, None, pos, ℤ, refl, sym, inl, inr, ◌∙◌, ap, subst, append_assoc, length-append, length-drop, arith}
use Rattle.std.proofs.lemmas.Option.{none-some}
use Rattle.std.proofs.lemmas.Bool.{false≢true, cases_lt}
use Rattle.std.proofs.lemmas.List.{get_or-drop, get_or_past, get_or-replicate, length-replicate}
use Rattle.std.proofs.lemmas.List.Elements.{All-head, All-tail}
use Rattle.std.specs.Prelude.{All, IsSome, slice_get, unwrap_or, flat_map, option_and_then, option_map, codes}
use Rattle.std.specs.List.{enumerate_from}
use Rattle.ot_base.specs.declared.place.Place.{Place}
use Rattle.ot_base.specs.declared.row.PlacedRow.{PlacedRow}
use Rattle.elf_objects.specs.declared.symbol.Home.{Home}
use Rattle.elf_objects.specs.declared.symbol.Home.TheVariants as home
use Rattle.elf_objects.specs.declared.symbol.Reloc.{Reloc}
use Rattle.elf_objects.specs.Elf.{Elf, SectionEntry}
use Rattle.elf_objects.specs.Contents.{section_symbol_of}
use Rattle.elf_objects.specs.declared.TheConstants.{R_X86_64_PC32}
use Rattle.elf_objects.specs.Number.{word}
use Rattle.orc_bytes.specs.declared.fault.SlotWhy.{SlotWhy}
use Rattle.orc_bytes.specs.declared.fault.OrcFault.{OrcFault}
use Rattle.orc_bytes.specs.RowBytes.{bytes_of_row}
use Rattle.orc_bytes.specs.Sections.{IsRowOf, HoldsOrc, section_named, row_section, ip_section, slot, slots}
use Rattle.orc_bytes.specs.Faults.{HasRow, HasParts, HasRowsAndPlaces, OrcParts, row_count, StandsForText, PlaceFault, no_reloc, more, kind, offset, symbol, range, not_zero, RowFault, bits, FirstFault, no_table, no_ips, table_length, ips_length, counts, row, without_rows}
use Rattle.orc_bytes.specs.Faults as faults
use Rattle.orc_bytes.proofs.OneList.{symbol_home}
use Rattle.orc_bytes.proofs.RowRead.{has_row}

some_alike : {A : Type 0} {x y : A} {o : Option A} → o ≡ Some x → o ≡ Some y → x ≡ y
some_alike h k = cc

six_long : (placed : PlacedRow) → length (bytes_of_row placed.row) ≡ 6
unfolding bytes_of_row
six_long placed = refl

pub rows_long : (rows : List PlacedRow) → length (row_section rows) ≡ 6 * length rows
rows_long [] = refl
rows_long (placed ∷ rows) =
    length-append (bytes_of_row placed.row) (row_section rows)
    ∙ (let one = six_long placed in let others = rows_long rows in omega arith)

slots_from : (ℕ → Option ℕ) → ℕ → List PlacedRow → List Reloc
slots_from symbols n rows = map (λ entry. slot symbols (4 * entry.0) entry.1) (enumerate_from n rows)

slots_long : (symbols : ℕ → Option ℕ) (n : ℕ) (rows : List PlacedRow) → length (slots_from symbols n rows) ≡ length rows
unfolding slots_from
slots_long symbols n [] = refl
slots_long symbols n (placed ∷ rows) = ap suc (slots_long symbols (n + 1) rows)

-- row number i, where the rows have it
record HasRowAt (object : Elf) (n i : ℕ) (rows : List PlacedRow) : Type 0 where
  placed : PlacedRow
  is : IsRowOf object placed
  bytes : HasRow (drop (6 * i) (row_section rows))
  slot_is : slice_get (slots_from (section_symbol_of object) n rows) i ≡ Some (slot (section_symbol_of object) (4 * (n + i)) placed)

six_behind : (i : ℕ) (placed : PlacedRow) (xs : List ℕ) → drop (6 * suc i) (bytes_of_row placed.row ++ xs) ≡ drop (6 * i) xs
unfolding bytes_of_row
six_behind i placed xs = ap (λ (k : ℕ). drop k (bytes_of_row placed.row ++ xs)) more_by_six
  where
    more_by_six : 6 * suc i ≡ suc (suc (suc (suc (suc (suc (6 * i))))))
    more_by_six = omega arith

row_at : (object : Elf) (n i : ℕ) (rows : List PlacedRow) → All (IsRowOf object) rows → i < length rows → HasRowAt object n i rows
unfolding slots_from
row_at object n i [] all h = absurd (omega arith)
row_at object n zero (placed ∷ rows) all h = record {
  placed = placed;
  is = All-head (IsRowOf object) placed rows all;
  bytes = has_row placed.row (row_section rows) (All-head (IsRowOf object) placed rows all).row;
  slot_is = ap (λ (k : ℕ). Some (slot (section_symbol_of object) (4 * k) placed)) (omega arith);
}
row_at object n (suc i) (placed ∷ rows) all h =
    let rest = row_at object (n + 1) i rows (All-tail (IsRowOf object) placed rows all) (omega arith) in
    record {
      placed = rest.placed;
      is = rest.is;
      bytes = subst HasRow (sym (six_behind i placed (row_section rows))) rest.bytes;
      slot_is = rest.slot_is ∙ ap (λ (k : ℕ). Some (slot (section_symbol_of object) (4 * k) rest.placed)) (omega arith);
    }

zero_read : (n j : ℕ) → ◌≡◌ {A = ℕ} (get_or (replicate n 0) j 0) 0
zero_read n j = elim (cases_lt j n) [
  | inr past ↦ get_or_past (replicate n 0) j 0 (let long = length-replicate {A = ℕ} n 0 in omega (arith, long))
  | inl inside ↦ get_or-replicate n j 0 0 inside
]

zero_at : (n at k : ℕ) → ◌≡◌ {A = ℕ} (get_or (drop at (replicate n 0)) k 0) 0
zero_at n at k = get_or-drop at (replicate n 0) k 0 ∙ zero_read n (at + k)

zero_word : (n at : ℕ) → word (replicate n 0) at ≡ 0
unfolding word
zero_word n at =
    let a = zero_at n at 0 in
    let b = zero_at n at 1 in
    let c = zero_at n at 2 in
    let d = zero_at n at 3 in
    omega (arith, a, b, c, d)

-- the section symbol of a row's section stands for it
stands : (object : Elf) (placed : PlacedRow) (is : IsRowOf object placed) → StandsForText object (unwrap_or (section_symbol_of object placed.place.sec) 0) placed.place.sec is.section
stands object placed is = record {
  at = is.at;
  text = is.text;
  symbol = go (section_symbol_of object placed.place.sec) is.symbol;
}
  where
    go : (o : Option ℕ) → IsSome o → o ≡ Some (unwrap_or o 0)
    go (Some k) some = refl
    go None some = absurd (false≢true some)

-- a symbol stands for one section
one_section : (object : Elf) (sym_no sec other : ℕ) (a b : SectionEntry) → StandsForText object sym_no sec a → StandsForText object sym_no other b → (sec ≡ other) × (a ≡ b)
one_section object sym_no sec other a b one two =
    let same : sec ≡ other = alike (sym (symbol_home object sec sym_no one.symbol) ∙ symbol_home object other sym_no two.symbol) in
    (same, some_alike one.at (ap (slice_get object.sections) same ∙ two.at))
  where
    alike : {i j : ℕ} → home.Section i ≡ home.Section j → i ≡ j
    alike h = cc

pos-injective : {a b : ℕ} → ◌≡◌ {A = ℤ} (pos a) (pos b) → a ≡ b
pos-injective h = cc

no_place_fault : (object : Elf) (parts : OrcParts) (rows : List PlacedRow) (i : ℕ) (why : SlotWhy)
    → All (IsRowOf object) rows → parts.ips ≡ ip_section rows → parts.relocs ≡ slots (section_symbol_of object) rows → row_count parts ≡ length rows → i < length rows
    → PlaceFault object parts i why → ⊥
unfolding slots_from
no_place_fault object parts rows i why all ips relocs count h fault = go why fault
  where
    here : HasRowAt object 0 i rows
    here = row_at object 0 i rows all h

    there : slice_get parts.relocs i ≡ Some (slot (section_symbol_of object) (4 * i) here.placed)
    there = ap (λ (rs : List Reloc). slice_get rs i) relocs ∙ here.slot_is ∙ ap (λ (k : ℕ). Some (slot (section_symbol_of object) (4 * k) here.placed)) (omega arith)

    long : length parts.relocs ≡ length rows
    long = ap (λ (rs : List Reloc). length rs) relocs ∙ slots_long (section_symbol_of object) 0 rows

    is_slot : (reloc : Reloc) → slice_get parts.relocs i ≡ Some reloc → reloc ≡ slot (section_symbol_of object) (4 * i) here.placed
    is_slot reloc e = some_alike e there

    go : (why : SlotWhy) → PlaceFault object parts i why → ⊥
    go _ (no_reloc none) = none-some _ (sym none ∙ there)
    go _ (more last left) = omega (arith, long)
    go _ (kind reloc has other) = other (ap (λ (r : Reloc). r.kind) (is_slot reloc has.there))
    go _ (offset reloc has is other) = other (ap (λ (r : Reloc). r.offset) (is_slot reloc has.there))
    go _ (symbol reloc at none) =
        none here.placed.place.sec here.is.section (subst (λ (k : ℕ). StandsForText object k here.placed.place.sec here.is.section) (sym (ap (λ (r : Reloc). r.sym) (is_slot reloc at.own.there))) (stands object here.placed here.is))
    go _ (range reloc sec section at text beyond) =
        let same = one_section object _ _ _ _ _ text (subst (λ (k : ℕ). StandsForText object k here.placed.place.sec here.is.section) (sym (ap (λ (r : Reloc). r.sym) (is_slot reloc at.own.there))) (stands object here.placed here.is)) in
        let above = beyond here.placed.place.off (ap (λ (r : Reloc). r.addend) (is_slot reloc at.own.there)) in
        let size : section.size ≡ here.is.section.size = ap (λ (s : SectionEntry). s.size) same.1 in
        let inside = here.is.inside in
        omega arith
    go _ (not_zero reloc place at told other) = other (ap (λ (xs : List ℕ). word xs (4 * i)) ips ∙ zero_word (4 * length rows) (4 * i))

no_fault : (object : Elf) (rows : List PlacedRow) (fault : OrcFault) → HoldsOrc object rows → FirstFault object fault → ⊥
no_fault object rows fault holds first = go fault first
  where
    table_is : (parts : OrcParts) → HasParts object parts → parts.table ≡ row_section rows
    table_is parts has = some_alike has.table holds.table

    ips_are : (parts : OrcParts) → HasParts object parts → parts.ips ≡ ip_section rows
    ips_are parts has = some_alike has.ips holds.ip

    relocs_are : (parts : OrcParts) → HasParts object parts → parts.relocs ≡ slots (section_symbol_of object) rows
    relocs_are parts has = some_alike has.relocs holds.relocs

    table_long : (parts : OrcParts) → HasParts object parts → length parts.table ≡ 6 * length rows
    table_long parts has = ap (λ (xs : List ℕ). length xs) (table_is parts has) ∙ rows_long rows

    ips_long : (parts : OrcParts) → HasParts object parts → length parts.ips ≡ 4 * length rows
    ips_long parts has = ap (λ (xs : List ℕ). length xs) (ips_are parts has) ∙ length-replicate (4 * length rows) 0

    row_fault : (parts : OrcParts) (i : ℕ) (fault : OrcFault) → HasParts object parts → i < row_count parts → RowFault object parts i fault → ⊥
    row_fault parts i fault has h (bits none) =
        let long = table_long parts has in
        let here = row_at object 0 i rows holds.each (omega arith) in
        none (subst (λ (xs : List ℕ). HasRow (drop (6 * i) xs)) (sym (table_is parts has)) here.bytes)
    row_fault parts i fault has h (faults.slot why is place) =
        let long = table_long parts has in
        no_place_fault object parts rows i why holds.each (ips_are parts has) (relocs_are parts has) (omega arith) (omega arith) place

    go : (fault : OrcFault) → FirstFault object fault → ⊥
    go _ (no_table none) = none-some _ (sym (ap (option_and_then (λ i. option_map (λ section. section.body) (slice_get object.sections i))) none) ∙ holds.table)
    go _ (no_ips table has none) = none-some _ (sym (ap (option_and_then (λ i. option_map (λ section. section.body) (slice_get object.sections i))) none) ∙ holds.ip)
    go _ (table_length parts has other) = let long = table_long parts has in other (omega arith)
    go _ (ips_length parts has even other) = let long = ips_long parts has in other (omega arith)
    go _ (counts parts has even places other) = let long = table_long parts has in let places_long = ips_long parts has in other (omega arith)
    go _ (row parts i fault has whole h lower at) = row_fault parts i fault has h at
    go _ (without_rows parts has whole none left) =
        let long = table_long parts has in
        left (relocs_are parts has ∙ no_slots rows (omega arith))
      where
        no_slots : (rows : List PlacedRow) → length rows ≡ 0 → slots (section_symbol_of object) rows ≡ []
        no_slots [] e = refl
        no_slots (placed ∷ rows) e = absurd (omega arith)

pub fault_excludes : (object : Elf) (rows : List PlacedRow) (fault : OrcFault) → FirstFault object fault → HoldsOrc object rows → ⊥
fault_excludes object rows fault first holds = no_fault object rows fault holds first
