-- What the site lists of an object say (Linux 6.6, tools/objtool/check.c, `create_retpoline_sites_sections` and those beside it).
use Rattle.std.specs.Prelude.{◌≡◌, ℕ, ◌*◌, ◌^◌, ◌<◌, ◌≤◌, ◌==◌, true, List, [], map, length, replicate, Option, Some, None, unwrap_or, flat_map, All, IsSome, slice_get, codes, pos, if◌then◌else◌}
use Rattle.std.specs.List.{enumerate_from}
use Rattle.ot_base.specs.declared.place.Place.{Place}
use Rattle.elf_objects.specs.declared.symbol.Reloc.{Reloc}
use Rattle.elf_objects.specs.Elf.{Elf, SectionEntry}
use Rattle.elf_objects.specs.Contents.{is_text, section_symbol_of}
use Rattle.elf_objects.specs.declared.TheConstants.{R_X86_64_PC32}
use Rattle.orc_bytes.specs.RelocBytes.{bytes_of_reloc}
use Rattle.orc_bytes.specs.Sections.{body_named, relocs_named, section_named}
use Rattle.site_lists.specs.Listed.{Listed}

-- the names of the three sections, by their number
abbrev pub list_name : ℕ → List ℕ
list_name which =
    if which == 0 then codes ".retpoline_sites"
    else if which == 1 then codes ".return_sites"
    else codes ".call_sites"

-- the body of a list: four zero bytes for each place, its slot, which a relocation fills in
abbrev pub slot_section : List Place → List ℕ
slot_section places = replicate (4 * length places) 0

-- The relocation of a slot at an offset: R_X86_64_PC32 against the symbol that stands for the place's section, with the place's
-- own offset as addend.
abbrev pub slot_reloc : (ℕ → Option ℕ) → ℕ → Place → Reloc
slot_reloc section_symbol offset place = record {
  offset = offset;
  kind = R_X86_64_PC32;
  sym = unwrap_or (section_symbol place.sec) 0;
  addend = pos place.off;
}

-- the relocations of a list: place number i has the four bytes from 4 * i on
abbrev pub slot_relocs : (ℕ → Option ℕ) → List Place → List Reloc
slot_relocs section_symbol places = map (λ entry. slot_reloc section_symbol (4 * entry.0) entry.1) (enumerate_from 0 places)

-- the body of the section of these relocations
abbrev pub rela_section : (ℕ → Option ℕ) → List Place → List ℕ
rela_section section_symbol places = flat_map bytes_of_reloc (slot_relocs section_symbol places)

-- The place lies in a text section that a symbol stands for, at an offset up to the section's size that an addend can hold.
pub record IsSite (object : Elf) (place : Place) : Type 0 where
  pub section : SectionEntry
  pub at : slice_get object.sections place.sec ≡ Some section
  pub text : is_text section ≡ true
  pub symbol : IsSome (section_symbol_of object place.sec)
  pub inside : place.off ≤ section.size
  pub addend : place.off < 2 ^ 63

-- The first section with the name holds these places, and nothing else.
pub record HoldsList (object : Elf) (name : List ℕ) (places : List Place) : Type 0 where
  pub slots : body_named object name ≡ Some (slot_section places)
  pub relocs : relocs_named object name ≡ Some (slot_relocs (section_symbol_of object) places)
  pub each : All (IsSite object) places

-- It does, or there is no such section and the list is empty.
pub data IsListOf (object : Elf) (name : List ℕ) (places : List Place) : Type 0 where
  held : HoldsList object name places → IsListOf object name places
  missing : section_named object name ≡ None → places ≡ [] → IsListOf object name places

-- one of the three lists is there
pub record HasLists (object : Elf) : Type 0 where
  pub which : ℕ
  pub inside : which < 3
  pub there : IsSome (section_named object (list_name which))

-- The three lists of the object are these, and nothing else; not all of them are missing.
pub record HoldsSites (object : Elf) (lists : Listed) : Type 0 where
  pub some : HasLists object
  pub retpoline : IsListOf object (list_name 0) lists.retpoline
  pub returns : IsListOf object (list_name 1) lists.returns
  pub calls : IsListOf object (list_name 2) lists.calls

-- each place of the lists is one that a list can hold
pub record AreSites (object : Elf) (lists : Listed) : Type 0 where
  pub retpoline : All (IsSite object) lists.retpoline
  pub returns : All (IsSite object) lists.returns
  pub calls : All (IsSite object) lists.calls
