-- An object with the ORC sections of some rows added (Linux 6.6, `orc-unwinder.rst`; ELF-64 gABI, section header).
use Rattle.std.specs.Prelude.{◌≢◌, ℕ, ◌+◌, ◌≤◌, List, [], ◌∷◌, length, All, codes}
use Rattle.ot_base.specs.declared.row.PlacedRow.{PlacedRow}
use Rattle.elf_objects.specs.Contents.{section_symbol_of}
use Rattle.elf_objects.specs.Elf.{Elf, SectionEntry}
use Rattle.elf_objects.specs.declared.TheConstants.{SHF_ALLOC, SHF_INFO_LINK, SHT_PROGBITS, SHT_RELA}
use Rattle.elf_objects.specs.Sections.{link_of}
use Rattle.elf_write.specs.Added.{object_with}
use Rattle.elf_write.specs.Layout.{NewEntry}
use Rattle.orc_bytes.specs.Sections.{IsRowOf, row_section, ip_section, rela_section}

-- `.orc_unwind`: six bytes for each row
abbrev pub orc_entry : List ℕ → NewEntry
orc_entry body = record {
  name = codes ".orc_unwind";
  kind = SHT_PROGBITS;
  flags = SHF_ALLOC;
  link = 0;
  info = 0;
  align = 1;
  entsize = 6;
  body = body;
}

-- `.orc_unwind_ip`: the four bytes of each row's place
abbrev pub ip_entry : List ℕ → NewEntry
ip_entry body = record {
  name = codes ".orc_unwind_ip";
  kind = SHT_PROGBITS;
  flags = SHF_ALLOC;
  link = 0;
  info = 0;
  align = 4;
  entsize = 4;
  body = body;
}

-- the number of `.orc_unwind_ip`, the second of the sections behind those of the object
abbrev pub ip_number : Elf → ℕ
ip_number o = length o.sections + 1

-- `.rela.orc_unwind_ip`: the relocations of these places
abbrev pub rela_entry : Elf → List ℕ → NewEntry
rela_entry o body = record {
  name = codes ".rela.orc_unwind_ip";
  kind = SHT_RELA;
  flags = SHF_INFO_LINK;
  link = link_of o.symbol_table;
  info = ip_number o;
  align = 8;
  entsize = 24;
  body = body;
}

-- the ORC sections of the rows, in their order
abbrev pub orc_sections : Elf → List PlacedRow → List NewEntry
orc_sections o rows =
    orc_entry (row_section rows) ∷ ip_entry (ip_section rows) ∷ rela_entry o (rela_section (section_symbol_of o) rows) ∷ []

-- the object with them
abbrev pub with_orc_object : Elf → List PlacedRow → Elf
with_orc_object o rows = object_with o (orc_sections o rows)

-- the section is none of the ORC sections
pub record IsOther (s : SectionEntry) : Type 0 where
  pub table : s.name ≢ codes ".orc_unwind"
  pub ip : s.name ≢ codes ".orc_unwind_ip"
  pub rela : s.name ≢ codes ".rela.orc_unwind_ip"

-- Each row lies in a text section of the object, which has no ORC sections yet and room for three sections; and neither
-- the file (at most 256 MiB) nor the rows (at most one for each place of 64 MiB) are too many for a file of 32 bits.
pub record CanHaveOrc (o : Elf) (rows : List PlacedRow) : Type 0 where
  pub each : All (IsRowOf o) rows
  pub none : All IsOther o.sections
  pub few : length o.sections + 3 ≤ 262144
  pub short : length o.bytes ≤ 268435456
  pub few_rows : length rows ≤ 67108865
