-- The file header, Elf64_Ehdr, and the section header table that it names.
use Rattle.std.specs.Prelude.{◌≡◌, ◌≢◌, ◌⊎◌, ◌<◌, ◌≤◌, ◌+◌, ◌*◌, ◌^◌, ◌-◌, min, ℕ, ◌==◌, not, List, [], ◌∷◌, length, slice_index, Option, Some, None, if◌then◌else◌}
use Rattle.std.specs.List.{find}
use Rattle.elf_objects.specs.declared.TheConstants.{MAX_SECTIONS}
use Rattle.elf_objects.specs.declared.header.SectionHeader.{SectionHeader}
use Rattle.elf_objects.specs.declared.fault.Counted.TheVariants.{Sections}
use Rattle.elf_objects.specs.declared.fault.ElfFault.{ElfFault}
use Rattle.elf_objects.specs.declared.fault.ElfFault.TheVariants.{Short, NotElfRel64, BadTable, TooMany}
use Rattle.elf_objects.specs.Header.{header_at}
use Rattle.elf_objects.specs.declared.TheConstants.{SHN_LORESERVE, SHN_XINDEX}
use Rattle.elf_objects.specs.Number.{half, word, xword}

-- a field of the file header: its offset, what stands there, and what must stand there
abbrev pub Field : Type 0
Field = ℕ × ℕ × ℕ

-- ELF magic, ELFCLASS64, ELFDATA2LSB, EV_CURRENT; ET_REL, EM_X86_64, EV_CURRENT, and the sizes of the two headers
abbrev pub fields : List ℕ → List Field
fields b = (0, slice_index b 0, 0x7F) ∷ (1, slice_index b 1, 0x45) ∷ (2, slice_index b 2, 0x4C) ∷ (3, slice_index b 3, 0x46)
    ∷ (4, slice_index b 4, 2) ∷ (5, slice_index b 5, 1) ∷ (6, slice_index b 6, 1)
    ∷ (16, half b 16, 1) ∷ (18, half b 18, 62) ∷ (20, word b 20, 1) ∷ (52, half b 52, 64) ∷ (58, half b 58, 64) ∷ []

-- the first field that is not as it must be
unfoldable pub wrong_field : List ℕ → Option Field
wrong_field b = find (λ f. not (f.1 == f.2)) (fields b)

-- e_shoff, e_shnum and e_shstrndx
abbrev pub headers_at : List ℕ → ℕ
headers_at b = xword b 40

abbrev pub shnum : List ℕ → ℕ
shnum b = half b 60

abbrev pub shstrndx : List ℕ → ℕ
shstrndx b = half b 62

-- a number that does not fit its field of the file header stands in the header of section 0
abbrev pub IsExtended : List ℕ → Type 0
IsExtended b = (shnum b ≡ 0) ⊎ (shstrndx b ≡ SHN_XINDEX)

-- how many section headers there are
unfoldable pub section_count : List ℕ → ℕ
section_count b = if shnum b == 0 then (header_at b (headers_at b)).size else shnum b

-- the index of the table of section names
unfoldable pub name_table : List ℕ → ℕ
name_table b = if shstrndx b == SHN_XINDEX then (header_at b (headers_at b)).link else shstrndx b

-- the header of a section
unfoldable pub section_header : List ℕ → ℕ → SectionHeader
section_header b i = header_at b (headers_at b + 64 * i)

-- The steps that a file has to pass, up to its section header table.

-- there is a file header
abbrev pub HasFileHeader : List ℕ → Type 0
HasFileHeader b = 64 ≤ length b

-- it is that of a little-endian 64-bit relocatable file for x86-64
abbrev pub IsElfRel64 : List ℕ → Type 0
IsElfRel64 b = wrong_field b ≡ None

-- where it is needed, the header of section 0 is there
pub record HasFirstHeader (b : List ℕ) : Type 0 where
  pub named : IsExtended b → headers_at b ≢ 0
  pub inside : IsExtended b → headers_at b + 64 ≤ length b

-- there are sections, and one of them is the table of their names
pub record HasCounts (b : List ℕ) : Type 0 where
  pub some : section_count b ≢ 0
  pub plain : SHN_LORESERVE ≤ shstrndx b → shstrndx b ≡ SHN_XINDEX
  pub names : name_table b < section_count b

-- there are not too many
abbrev pub HasFewSections : List ℕ → Type 0
HasFewSections b = section_count b ≤ MAX_SECTIONS

-- the section header table lies in the file
abbrev pub HoldsHeaders : List ℕ → Type 0
HoldsHeaders b = headers_at b + 64 * section_count b ≤ length b

-- the file is too short for something that ends at `need`
abbrev pub too_short : List ℕ → ℕ → ElfFault
too_short b need = Short (min need (2 ^ 64 - 1)) (length b)

-- the section header table can be read
pub record HasTable (b : List ℕ) : Type 0 where
  pub file_header : HasFileHeader b
  pub target : IsElfRel64 b
  pub first_header : HasFirstHeader b
  pub counts : HasCounts b
  pub few : HasFewSections b
  pub headers : HoldsHeaders b

-- the first of these that fails, and its fault
pub data TableFault (b : List ℕ) (e : ElfFault) : Type 0 where
  no_file_header : length b < 64 → e ≡ Short 64 (length b) → TableFault b e
  other_target : HasFileHeader b → (f : Field) → wrong_field b ≡ Some f → e ≡ NotElfRel64 f.0 → TableFault b e
  no_first_header : HasFileHeader b → IsElfRel64 b → IsExtended b → headers_at b ≡ 0 → e ≡ BadTable 0 → TableFault b e
  first_header_outside :
      HasFileHeader b
      → IsElfRel64 b
      → IsExtended b
      → headers_at b ≢ 0
      → length b < headers_at b + 64
      → e ≡ too_short b (headers_at b + 64)
      → TableFault b e
  bad_counts : HasFileHeader b → IsElfRel64 b → HasFirstHeader b → ¬ HasCounts b → e ≡ BadTable 0 → TableFault b e
  many_sections :
      HasFileHeader b
      → IsElfRel64 b
      → HasFirstHeader b
      → HasCounts b
      → ¬ HasFewSections b
      → e ≡ TooMany Sections (section_count b)
      → TableFault b e
  headers_outside :
      HasFileHeader b
      → IsElfRel64 b
      → HasFirstHeader b
      → HasCounts b
      → HasFewSections b
      → ¬ HoldsHeaders b
      → e ≡ too_short b (headers_at b + 64 * section_count b)
      → TableFault b e
