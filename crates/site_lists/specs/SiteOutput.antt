-- An object with three site lists added (Linux 6.6, tools/objtool/check.c; ELF-64 gABI, section header).
use Rattle.std.specs.Prelude.{◌≢◌, ℕ, ◌+◌, ◌*◌, ◌≤◌, ◌||◌, Bool, List, [], ◌∷◌, ◌++◌, length, All, Option, bytes_eq, codes, position}
use Rattle.elf_objects.specs.Contents.{section_symbol_of}
use Rattle.elf_objects.specs.Elf.{Elf, SectionEntry}
use Rattle.elf_objects.specs.declared.TheConstants.{SHF_ALLOC, SHF_INFO_LINK, SHT_PROGBITS, SHT_RELA}
use Rattle.elf_objects.specs.Sections.{link_of}
use Rattle.elf_write.specs.Added.{object_with}
use Rattle.elf_write.specs.Layout.{NewEntry}
use Rattle.site_lists.specs.Listed.{Listed}
use Rattle.site_lists.specs.Sections.{AreSites, list_name, rela_section, slot_section}
use Rattle.site_lists.specs.Sites.{AreFew}

-- the section of a list, by the list's number: four bytes for each place
abbrev pub list_entry : ℕ → List ℕ → NewEntry
list_entry which body = record {
  name = list_name which;
  kind = SHT_PROGBITS;
  flags = SHF_ALLOC;
  link = 0;
  info = 0;
  align = 4;
  entsize = 4;
  body = body;
}

-- where it stands: behind the sections of the object, each list followed by its relocations
abbrev pub list_number : Elf → ℕ → ℕ
list_number o which = length o.sections + 2 * which

-- the name of the section of its relocations
abbrev pub rela_name : ℕ → List ℕ
rela_name which = codes ".rela" ++ list_name which

-- the section of its relocations
abbrev pub rela_entry : Elf → ℕ → List ℕ → NewEntry
rela_entry o which body = record {
  name = rela_name which;
  kind = SHT_RELA;
  flags = SHF_INFO_LINK;
  link = link_of o.symbol_table;
  info = list_number o which;
  align = 8;
  entsize = 24;
  body = body;
}

-- the six sections, in their order
abbrev pub site_sections : Elf → Listed → List NewEntry
site_sections o lists =
    list_entry 0 (slot_section lists.retpoline) ∷ rela_entry o 0 (rela_section (section_symbol_of o) lists.retpoline)
    ∷ list_entry 1 (slot_section lists.returns) ∷ rela_entry o 1 (rela_section (section_symbol_of o) lists.returns)
    ∷ list_entry 2 (slot_section lists.calls) ∷ rela_entry o 2 (rela_section (section_symbol_of o) lists.calls) ∷ []

-- the object with them
abbrev pub with_lists_object : Elf → Listed → Elf
with_lists_object o lists = object_with o (site_sections o lists)

-- the section is none of a site list
pub record IsOther (s : SectionEntry) : Type 0 where
  pub list : (which : ℕ) → s.name ≢ list_name which
  pub rela : (which : ℕ) → s.name ≢ rela_name which

-- Each place is one that a list of the object can hold; the object has no site lists yet and room for six sections; and neither the
-- file (at most 256 MiB) nor the places are too many for a file of 32 bits.
pub record CanHaveLists (o : Elf) (lists : Listed) : Type 0 where
  pub each : AreSites o lists
  pub none : All IsOther o.sections
  pub few : length o.sections + 6 ≤ 262144
  pub short : length o.bytes ≤ 268435456
  pub few_places : AreFew lists

-- the name is that of a site list, or of the relocations of one
abbrev pub is_site_name : List ℕ → Bool
is_site_name name =
    bytes_eq name (list_name 0) || (bytes_eq name (rela_name 0) || (bytes_eq name (list_name 1)
    || (bytes_eq name (rela_name 1) || (bytes_eq name (list_name 2) || bytes_eq name (rela_name 2)))))

-- the first section with such a name
unfoldable pub site_section : Elf → Option ℕ
site_section o = position (λ s. is_site_name s.name) o.sections
