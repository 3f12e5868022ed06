-- What the ORC sections of an object say (Linux 6.6, `orc-unwinder.rst` and `orc_types.h`).
use Rattle.std.specs.Prelude.{◌≡◌, ℕ, ◌*◌, ◌^◌, ◌<◌, ◌≤◌, true, List, map, length, replicate, Option, Some, option_map, option_and_then, unwrap_or, position, flat_map, All, IsSome, slice_get, bytes_eq, codes, pos}
use Rattle.std.specs.List.{enumerate_from}
use Rattle.ot_base.specs.declared.row.PlacedRow.{PlacedRow}
use Rattle.elf_objects.specs.declared.symbol.Reloc.{Reloc}
use Rattle.elf_objects.specs.Elf.{Elf, SectionEntry}
use Rattle.elf_objects.specs.Contents.{is_text, section_symbol_of}
use Rattle.elf_objects.specs.declared.TheConstants.{R_X86_64_PC32}
use Rattle.orc_bytes.specs.RowBytes.{bytes_of_row, IsRow}
use Rattle.orc_bytes.specs.RelocBytes.{bytes_of_reloc}

-- the body of `.orc_unwind`: the bytes of the rows, one after the other
abbrev pub row_section : List PlacedRow → List ℕ
row_section rows = flat_map (λ placed. bytes_of_row placed.row) rows

-- the body of `.orc_unwind_ip`: four zero bytes for each row, which a relocation fills in
abbrev pub ip_section : List PlacedRow → List ℕ
ip_section rows = replicate (4 * length rows) 0

-- The relocation of a row's four bytes, which begin at an offset: R_X86_64_PC32 against the symbol that
-- stands for the row's section, with the row's own offset as addend.
abbrev pub slot : (ℕ → Option ℕ) → ℕ → PlacedRow → Reloc
slot section_symbol offset placed = record {
  offset = offset;
  kind = R_X86_64_PC32;
  sym = unwrap_or (section_symbol placed.place.sec) 0;
  addend = pos placed.place.off;
}

-- the relocations of `.orc_unwind_ip`: row number i has the four bytes from 4 * i on
abbrev pub slots : (ℕ → Option ℕ) → List PlacedRow → List Reloc
slots section_symbol rows = map (λ entry. slot section_symbol (4 * entry.0) entry.1) (enumerate_from 0 rows)

-- the body of `.rela.orc_unwind_ip`
abbrev pub rela_section : (ℕ → Option ℕ) → List PlacedRow → List ℕ
rela_section section_symbol rows = flat_map bytes_of_reloc (slots section_symbol rows)

-- The row lies in a text section that a symbol stands for, at an offset up to the section's size that an
-- addend can hold, and six bytes hold the row.
pub record IsRowOf (object : Elf) (placed : PlacedRow) : Type 0 where
  pub section : SectionEntry
  pub at : slice_get object.sections placed.place.sec ≡ Some section
  pub text : is_text section ≡ true
  pub symbol : IsSome (section_symbol_of object placed.place.sec)
  pub inside : placed.place.off ≤ section.size
  pub addend : placed.place.off < 2 ^ 63
  pub row : IsRow placed.row

-- the first section with a name
abbrev pub section_named : Elf → List ℕ → Option ℕ
section_named object name = position (λ section. bytes_eq section.name name) object.sections

-- its body, and the relocations of it
abbrev pub body_named : Elf → List ℕ → Option (List ℕ)
body_named object name = option_and_then (λ i. option_map (λ section. section.body) (slice_get object.sections i)) (section_named object name)

abbrev pub relocs_named : Elf → List ℕ → Option (List Reloc)
relocs_named object name = option_and_then (λ i. slice_get object.relocs i) (section_named object name)

-- The ORC sections of the object are these rows, and nothing else.
pub record HoldsOrc (object : Elf) (rows : List PlacedRow) : Type 0 where
  pub table : body_named object (codes ".orc_unwind") ≡ Some (row_section rows)
  pub ip : body_named object (codes ".orc_unwind_ip") ≡ Some (ip_section rows)
  pub relocs : relocs_named object (codes ".orc_unwind_ip") ≡ Some (slots (section_symbol_of object) rows)
  pub each : All (IsRowOf object) rows
