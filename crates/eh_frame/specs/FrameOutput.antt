-- An object with the call frame information of some rows added (System V psABI, `.eh_frame`; ELF-64 gABI, section header).
use Rattle.std.specs.Prelude.{◌≢◌, ℕ, ◌+◌, ◌≤◌, ◌||◌, Bool, List, [], ◌∷◌, length, All, Option, bytes_eq, codes, position}
use Rattle.ot_base.specs.declared.row.PlacedRow.{PlacedRow}
use Rattle.elf_objects.specs.Elf.{Elf, SectionEntry}
use Rattle.elf_objects.specs.declared.TheConstants.{SHF_ALLOC, SHF_INFO_LINK, SHT_PROGBITS, SHT_RELA}
use Rattle.elf_objects.specs.Sections.{link_of}
use Rattle.elf_write.specs.Added.{object_with}
use Rattle.elf_write.specs.Layout.{NewEntry}
use Rattle.eh_frame.specs.RowFrames.{frame_rela, frame_section, CanHaveFrames}

-- `.eh_frame`: the call frame information
abbrev pub frame_entry : List ℕ → NewEntry
frame_entry body = record {
  name = codes ".eh_frame";
  kind = SHT_PROGBITS;
  flags = SHF_ALLOC;
  link = 0;
  info = 0;
  align = 8;
  entsize = 0;
  body = body;
}

-- the number of `.eh_frame`, the first of the sections behind those of the object
abbrev pub frame_number : Elf → ℕ
frame_number o = length o.sections

-- `.rela.eh_frame`: the relocation of each of its entries
abbrev pub rela_entry : Elf → List ℕ → NewEntry
rela_entry o body = record {
  name = codes ".rela.eh_frame";
  kind = SHT_RELA;
  flags = SHF_INFO_LINK;
  link = link_of o.symbol_table;
  info = frame_number o;
  align = 8;
  entsize = 24;
  body = body;
}

-- the two sections for rows
abbrev pub frame_sections : Elf → List PlacedRow → List NewEntry
frame_sections o rows = frame_entry (frame_section o rows) ∷ rela_entry o (frame_rela o rows) ∷ []

-- the object with them
abbrev pub with_frames_object : Elf → List PlacedRow → Elf
with_frames_object o rows = object_with o (frame_sections o rows)

-- the section is none of the two
pub record IsOther (s : SectionEntry) : Type 0 where
  pub frame : s.name ≢ codes ".eh_frame"
  pub rela : s.name ≢ codes ".rela.eh_frame"

-- The object can have the call frame information of the rows; it has no frame section yet and room for two sections; and its file
-- (at most 256 MiB) isn't too long for one of 32 bits.
pub record CanHaveSections (o : Elf) (rows : List PlacedRow) : Type 0 where
  pub frames : CanHaveFrames o rows
  pub none : All IsOther o.sections
  pub few : length o.sections + 2 ≤ 262144
  pub short : length o.bytes ≤ 268435456

-- the name is that of a frame section
abbrev pub is_frame_name : List ℕ → Bool
is_frame_name name = bytes_eq name (codes ".eh_frame") || bytes_eq name (codes ".rela.eh_frame")

-- the first section with such a name
unfoldable pub first_frame : Elf → Option ℕ
first_frame o = position (λ s. is_frame_name s.name) o.sections
