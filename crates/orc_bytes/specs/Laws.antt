-- What holds of the ORC sections of every object.
use Rattle.std.specs.Prelude.{◌^◌, ◌<◌, Some, slice_get, codes, ◌≡◌, ℕ, ◌+◌, ◌*◌, List, map, length, take, drop, All, flat_map}
use Rattle.std.specs.List.{range_with_len}
use Rattle.ot_base.specs.declared.row.PlacedRow.{PlacedRow}
use Rattle.elf_objects.specs.declared.symbol.Reloc.{Reloc}
use Rattle.elf_objects.specs.Elf.{Elf}
use Rattle.elf_objects.specs.Contents.{section_symbol_of}
use Rattle.elf_objects.specs.Table.{reloc_at}
use Rattle.orc_bytes.specs.RelocBytes.{bytes_of_reloc, IsReloc}
use Rattle.orc_bytes.specs.Sections.{HoldsOrc, IsRowOf, body_named, section_named, row_section, ip_section, rela_section}

-- at most one list of rows fits an object's ORC sections
abbrev pub OneListFits : Type 0
OneListFits = (object : Elf) (one other : List PlacedRow) → HoldsOrc object one → HoldsOrc object other → one ≡ other

-- Where the bytes from an offset on are those of some relocations, these relocations are read there.
abbrev pub RelocsReadBack : Type 0
RelocsReadBack = (bytes : List ℕ) (at : ℕ) (relocs : List Reloc) → All IsReloc relocs → take (24 * length relocs) (drop at bytes) ≡ flat_map bytes_of_reloc relocs → map (λ k. reloc_at bytes (at + 24 * k)) (range_with_len 0 (length relocs)) ≡ relocs

-- Where an object has the three bodies of some rows, and the relocations of `.orc_unwind_ip` are those
-- that stand in its file from an offset on, its ORC sections are these rows.
abbrev pub BodiesAreHeld : Type 0
BodiesAreHeld = (object : Elf) (rows : List PlacedRow) (ip at : ℕ)
    → All (IsRowOf object) rows
    → length rows < 2 ^ 32 → length object.symbols < 2 ^ 32
    → body_named object (codes ".orc_unwind") ≡ Some (row_section rows)
    → body_named object (codes ".orc_unwind_ip") ≡ Some (ip_section rows)
    → section_named object (codes ".orc_unwind_ip") ≡ Some ip
    → slice_get object.relocs ip ≡ Some (map (λ k. reloc_at object.bytes (at + 24 * k)) (range_with_len 0 (length rows)))
    → take (24 * length rows) (drop at object.bytes) ≡ rela_section (section_symbol_of object) rows
    → HoldsOrc object rows
