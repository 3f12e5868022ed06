-- The relocations of places, as those of the rows: they are read back, and each lies in the section of their slots.
use Rattle.std.proofs.Common.{◌≡◌, ℕ, ◌+◌, ◌*◌, ◌/◌, ◌^◌, ◌<◌, ◌≤◌, List, [], ◌∷◌, map, length, Option, Some, None, pos, refl, ◌∙◌, ap, subst, FitsSigned, Fits, w64, arith, length-append}
use Rattle.std.specs.Prelude.{All, IsSome, unwrap_or, flat_map}
use Rattle.std.specs.List.{enumerate_from, range_with_len}
use Rattle.std.proofs.Math.Facts.{sfits_to_z, to_z_pos}
use Rattle.std.proofs.lemmas.Bool.{false≢true}
use Rattle.std.proofs.lemmas.List.{take_all}
use Rattle.std.proofs.lemmas.List.Elements.{All-nil, All-cons, All-head, All-tail, All-weaker}
use Rattle.ot_base.specs.declared.place.Place.{Place}
use Rattle.ot_base.specs.declared.row.PlacedRow.{PlacedRow}
use Rattle.ot_base.specs.declared.row.Row.{Row}
use Rattle.elf_objects.specs.declared.symbol.Reloc.{Reloc}
use Rattle.elf_objects.specs.Elf.{Elf}
use Rattle.elf_objects.specs.Contents.{section_symbol_of}
use Rattle.elf_objects.specs.declared.TheConstants.{R_X86_64_PC32}
use Rattle.elf_objects.specs.Table.{reloc_at}
use Rattle.elf_write.specs.Added.{relocs_in, IsRelocOf}
use Rattle.elf_write.proofs.Says.{map-same}
use Rattle.orc_bytes.specs.RelocBytes.{bytes_of_reloc, IsReloc}
use Rattle.orc_bytes.specs.RowBytes.{bytes_of_row}
use Rattle.orc_bytes.specs.Sections.{IsRowOf, row_section, rela_section, slot, slots}
use Rattle.orc_bytes.proofs.OneList.{symbol_below}
use Rattle.orc_bytes.proofs.ReadBack.{relocs_read}
use Rattle.orc_output.proofs.Behind.{length-each}

length-row : (row : Row) → length (bytes_of_row row) ≡ 6
unfolding bytes_of_row
length-row row = simp length-append refl

length-reloc : (r : Reloc) → length (bytes_of_reloc r) ≡ 24
unfolding bytes_of_reloc
length-reloc r = simp length-append refl

pub length-row_section : (rows : List PlacedRow) → length (row_section rows) ≡ 6 * length rows
length-row_section [] = refl
length-row_section (placed ∷ rows) =
    let rest = length-row_section rows in
    let one = length-row placed.row in
    omega (arith, length-append (bytes_of_row placed.row) (row_section rows))

pub length-relocs : (rs : List Reloc) → length (flat_map bytes_of_reloc rs) ≡ 24 * length rs
length-relocs [] = refl
length-relocs (r ∷ rs) =
    let rest = length-relocs rs in
    let one = length-reloc r in
    omega (arith, length-append (bytes_of_reloc r) (flat_map bytes_of_reloc rs))

pub length-rela_section : (ss : ℕ → Option ℕ) (rows : List PlacedRow) → length (rela_section ss rows) ≡ 24 * length rows
length-rela_section ss rows =
    let a = length-relocs (slots ss rows) in
    let b : length (slots ss rows) ≡ length rows = length-each (λ (entry : ℕ × PlacedRow). slot ss (4 * entry.0) entry.1) 0 rows in
    omega arith

-- 24 bytes hold the relocation, its symbol is one of the object's, and its four bytes end at an offset or before it
pub record IsInside (o : Elf) (end : ℕ) (r : Reloc) : Type 0 where
  pub bits : IsReloc r
  pub inside : IsRelocOf r (length o.symbols) end

-- such relocations are read back from the body that is made of them
pub relocs_of : (o : Elf) (end : ℕ) (list : List Reloc) → All (IsInside o end) list → relocs_in (flat_map bytes_of_reloc list) ≡ list
relocs_of o end list inside =
    let body : List ℕ = flat_map bytes_of_reloc list in
    let size : length body ≡ 24 * length list = length-relocs list in
    let count : length body / 24 ≡ length list = omega arith in
    ap (λ (n : ℕ). map (λ k. reloc_at body (24 * k)) (range_with_len 0 n)) count
    ∙ map-same (λ (k : ℕ). reloc_at body (24 * k)) (λ (k : ℕ). reloc_at body (0 + 24 * k)) (length list) (reloc_at body 0) (λ k h. ap (reloc_at body) (omega arith))
    ∙ relocs_read body 0 list (All-weaker (IsInside o end) IsReloc (λ r h. h.bits) list inside) (take_all (24 * length list) body (omega arith))

-- a section symbol stands for the place's section, and an addend can hold its offset
pub record IsNameable (o : Elf) (place : Place) : Type 0 where
  pub symbol : IsSome (section_symbol_of o place.sec)
  pub addend : place.off < 2 ^ 63

slot_symbol : (o : Elf) (i : ℕ) → IsSome (section_symbol_of o i) → unwrap_or (section_symbol_of o i) 0 < length o.symbols
slot_symbol o i is = go (section_symbol_of o i) refl is
  where
    go : (s : Option ℕ) → section_symbol_of o i ≡ s → IsSome s → unwrap_or s 0 < length o.symbols
    go None e is = absurd (false≢true is)
    go (Some k) e is = symbol_below o i k e

-- the relocation of a place in four bytes from an offset on
abbrev pub place_slot : Elf → ℕ → Place → Reloc
place_slot o offset place = record {
  offset = offset;
  kind = R_X86_64_PC32;
  sym = unwrap_or (section_symbol_of o place.sec) 0;
  addend = pos place.off;
}

slot_inside : (o : Elf) (count n : ℕ) (place : Place) → n < count → count ≤ 2 ^ 32 → length o.symbols < 2 ^ 32 → IsNameable o place
    → IsInside o (4 * count) (place_slot o (4 * n) place)
slot_inside o count n place here few few_symbols is =
    let bits : Fits w64 place.off = record { fits = let low = is.addend in omega arith } in
    let symbol = slot_symbol o place.sec is.symbol in
    let ends : 4 * n + 4 ≤ 4 * count = omega arith in
    record {
      bits = record {
        offset = omega arith;
        kind = omega arith;
        sym = omega arith;
        addend = subst (FitsSigned w64) (to_z_pos w64 is.addend) (sfits_to_z bits);
      };
      inside = record { symbol = symbol; field = λ read. ends };
    }

-- the slots of the places of some things lie in so many times four bytes
pub place_slots_inside : {X : Type 0} (o : Elf) (place : X → Place) (count n : ℕ) (xs : List X) → n + length xs ≤ count → count ≤ 2 ^ 32 → length o.symbols < 2 ^ 32
    → All (λ x. IsNameable o (place x)) xs → All (IsInside o (4 * count)) (map (λ entry. place_slot o (4 * entry.0) (place entry.1)) (enumerate_from n xs))
place_slots_inside o place count n [] room few few_symbols all = All-nil (IsInside o (4 * count))
place_slots_inside o place count n (x ∷ xs) room few few_symbols all =
    All-cons (IsInside o (4 * count)) _ _
    (slot_inside o count n (place x) (omega arith) few few_symbols (All-head (λ x. IsNameable o (place x)) x xs all))
    (place_slots_inside o place count (n + 1) xs (omega arith) few few_symbols (All-tail (λ x. IsNameable o (place x)) x xs all))

pub slots_inside : (o : Elf) (rows : List PlacedRow) → length rows < 2 ^ 32 → length o.symbols ≤ 4194304 → All (IsRowOf o) rows
    → All (IsInside o (4 * length rows)) (slots (section_symbol_of o) rows)
slots_inside o rows few few_symbols all =
    place_slots_inside o (λ (placed : PlacedRow). placed.place) (length rows) 0 rows (omega arith) (omega arith) (omega arith)
    (All-weaker (IsRowOf o) (λ (placed : PlacedRow). IsNameable o placed.place) (λ placed is. record { symbol = is.symbol; addend = is.addend }) rows all)

pub relocs_back : (o : Elf) (rows : List PlacedRow) → length rows < 2 ^ 32 → length o.symbols ≤ 4194304 → All (IsRowOf o) rows
    → relocs_in (rela_section (section_symbol_of o) rows) ≡ slots (section_symbol_of o) rows
relocs_back o rows few few_symbols all = relocs_of o (4 * length rows) (slots (section_symbol_of o) rows) (slots_inside o rows few few_symbols all)
