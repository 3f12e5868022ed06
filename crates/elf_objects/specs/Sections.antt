-- What must hold of each section of an object, and the fault where it does not.
use Rattle.std.specs.Prelude.{◌≡◌, ◌≢◌, ◌<◌, ◌≤◌, ◌+◌, ◌/◌, ◌%◌, ◌-◌, ℕ, List, length, slice_index, Option, Some, None, IsTrue, bit_and, map, if◌then◌else◌}
use Rattle.std.specs.List.{range_with_len, sum_by}
use Rattle.elf_objects.specs.declared.TheConstants.{MAX_TEXT_BYTES}
use Rattle.elf_objects.specs.declared.header.SectionHeader.{SectionHeader}
use Rattle.elf_objects.specs.declared.fault.NameOf.TheVariants as named
use Rattle.elf_objects.specs.declared.fault.ElfFault.{ElfFault}
use Rattle.elf_objects.specs.declared.fault.ElfFault.TheVariants.{BadTable, BadRange, BadLink, BadName, TooMany}
use Rattle.elf_objects.specs.declared.fault.Counted.TheVariants.{TextBytes}
use Rattle.elf_objects.specs.Below.{AllBelow}
use Rattle.elf_objects.specs.File.{name_table, section_count, section_header}
use Rattle.elf_objects.specs.Header.{has_body, is_text_header}
use Rattle.elf_objects.specs.declared.TheConstants.{SHT_NULL, SHT_SYMTAB, SHT_STRTAB, SHT_RELA, SHT_REL, SHT_GROUP, SHT_SYMTAB_SHNDX, SHF_COMPRESSED}
use Rattle.elf_objects.specs.Table.{name_header, symbol_count, symbol_table}

-- a byte of the file belongs to the body of a section
abbrev pub IsInside : ℕ → SectionHeader → Type 0
IsInside x h = IsTrue (has_body h) × (h.offset ≤ x) × (x < h.offset + h.size)

-- a byte of the file belongs to both
abbrev pub SharesByte : SectionHeader → SectionHeader → Type 0
SharesByte h other = (x : ℕ) × IsInside x h × IsInside x other

-- the body of a section shares no byte with that of another
pub record IsAlone (b : List ℕ) (i : ℕ) : Type 0 where
  pub apart : (k : ℕ) → k < section_count b → k ≢ i → ¬ SharesByte (section_header b i) (section_header b k)

-- the body of a section lies in the file of n bytes, behind the file header
pub record IsPlaced (n : ℕ) (h : SectionHeader) : Type 0 where
  pub inside : IsTrue (has_body h) → h.offset + h.size ≤ n
  pub behind : IsTrue (has_body h) → 0 < h.size → 64 ≤ h.offset

-- Section 0 is that of no section. A body lies in the file, and that of relocations shares no byte with another.
pub record HasBody (b : List ℕ) (i : ℕ) : Type 0 where
  pub null : i ≡ 0 → (section_header b i).kind ≡ SHT_NULL
  pub placed : IsPlaced (length b) (section_header b i)
  pub alone : (section_header b i).kind ≡ SHT_RELA → IsAlone b i

pub data BodyFault (b : List ℕ) (i : ℕ) (e : ElfFault) : Type 0 where
  first_not_null : i ≡ 0 → (section_header b i).kind ≢ SHT_NULL → e ≡ BadTable 0 → BodyFault b i e
  bad_range : (i ≡ 0 → (section_header b i).kind ≡ SHT_NULL) → ¬ HasBody b i → e ≡ BadRange i → BodyFault b i e

-- A table has entries of the size that its type gives, and a whole number of them.
abbrev pub HasEntries : SectionHeader → ℕ → Type 0
HasEntries h n = (h.entsize ≡ n) × (h.size % n ≡ 0)

abbrev pub IsPlain : SectionHeader → Type 0
IsPlain h = bit_and h.flags SHF_COMPRESSED ≡ 0

-- no section before this one has that type
abbrev pub IsFirstOfKind : List ℕ → ℕ → ℕ → Type 0
IsFirstOfKind b kind i = AllBelow (λ k. (section_header b k).kind ≢ kind) i

pub record IsSymbolTable (b : List ℕ) (i : ℕ) : Type 0 where
  pub entries : HasEntries (section_header b i) 24
  pub only : IsFirstOfKind b SHT_SYMTAB i
  pub plain : IsPlain (section_header b i)

pub record IsIndexTable (b : List ℕ) (i : ℕ) : Type 0 where
  pub entries : HasEntries (section_header b i) 4
  pub only : IsFirstOfKind b SHT_SYMTAB_SHNDX i
  pub plain : IsPlain (section_header b i)

pub record IsRelocTable (h : SectionHeader) : Type 0 where
  pub entries : HasEntries h 24
  pub plain : IsPlain h

-- a string table is not empty and ends in a zero byte
pub record IsStringTable (b : List ℕ) (h : SectionHeader) : Type 0 where
  pub some : h.size ≢ 0
  pub ends : slice_index b (h.offset + h.size - 1) ≡ 0
  pub plain : IsPlain h

-- The header of a section is as its type asks for.
pub record HasKindForm (b : List ℕ) (i : ℕ) : Type 0 where
  pub symbols : (section_header b i).kind ≡ SHT_SYMTAB → IsSymbolTable b i
  pub indices : (section_header b i).kind ≡ SHT_SYMTAB_SHNDX → IsIndexTable b i
  pub relocs : (section_header b i).kind ≡ SHT_RELA → IsRelocTable (section_header b i)
  pub strings : (section_header b i).kind ≡ SHT_STRTAB → IsStringTable b (section_header b i)
  pub no_rel : (section_header b i).kind ≢ SHT_REL
  pub text : IsTrue (is_text_header (section_header b i)) → IsPlain (section_header b i)

-- And the table of section names is a string table.
pub record HasForm (b : List ℕ) (i : ℕ) : Type 0 where
  pub form : HasKindForm b i
  pub names : i ≡ name_table b → (section_header b i).kind ≡ SHT_STRTAB

pub record FormFault (b : List ℕ) (i : ℕ) (e : ElfFault) : Type 0 where
  pub fails : ¬ HasForm b i
  pub is : e ≡ BadTable i

-- the index is that of a string table
abbrev pub NamesStrings : List ℕ → ℕ → Type 0
NamesStrings b i = (i < section_count b) × ((section_header b i).kind ≡ SHT_STRTAB)

-- sh_info of a symbol table: from 1 to the number of symbols, and 0 where there are none
pub record IsBoundary (count info : ℕ) : Type 0 where
  pub none : count ≡ 0 → info ≡ 0
  pub above : count ≢ 0 → 1 ≤ info
  pub within : info ≤ count

-- the relocations are of a section that no section of relocations before has
abbrev pub IsFirstRelaOf : List ℕ → ℕ → ℕ → Type 0
IsFirstRelaOf b s i = AllBelow (λ k. (section_header b k).kind ≡ SHT_RELA → (section_header b k).info ≢ s) i

pub record LinksSymbols (b : List ℕ) (h : SectionHeader) : Type 0 where
  pub strings : NamesStrings b h.link
  pub boundary : IsBoundary (symbol_count b) h.info

pub record LinksIndices (b : List ℕ) (h : SectionHeader) : Type 0 where
  pub table : symbol_table b ≡ Some h.link
  pub entries : h.size / 4 ≡ symbol_count b

-- sh_link of a section of relocations: the symbol table, or 0 where there is none
abbrev pub link_of : Option ℕ → ℕ
link_of None = 0
link_of (Some i) = i

pub record LinksRelocs (b : List ℕ) (i : ℕ) (h : SectionHeader) : Type 0 where
  pub table : link_of (symbol_table b) ≡ h.link
  pub target : 1 ≤ h.info
  pub exists : h.info < section_count b
  pub only : IsFirstRelaOf b h.info i

pub record LinksGroup (b : List ℕ) (h : SectionHeader) : Type 0 where
  pub table : symbol_table b ≡ Some h.link
  pub signature : h.info < symbol_count b

-- What sh_link and sh_info of a section name is there, as its type asks for.
pub record HasLinks (b : List ℕ) (i : ℕ) : Type 0 where
  pub symbols : (section_header b i).kind ≡ SHT_SYMTAB → LinksSymbols b (section_header b i)
  pub indices : (section_header b i).kind ≡ SHT_SYMTAB_SHNDX → LinksIndices b (section_header b i)
  pub relocs : (section_header b i).kind ≡ SHT_RELA → LinksRelocs b i (section_header b i)
  pub group : (section_header b i).kind ≡ SHT_GROUP → LinksGroup b (section_header b i)

pub record LinkFault (b : List ℕ) (i : ℕ) (e : ElfFault) : Type 0 where
  pub fails : ¬ HasLinks b i
  pub is : e ≡ BadLink i

-- The name of a section begins in the table of section names.
abbrev pub HasName : List ℕ → ℕ → Type 0
HasName b i = (section_header b i).name < (name_header b).size

pub record NameFault (b : List ℕ) (i : ℕ) (e : ElfFault) : Type 0 where
  pub fails : ¬ HasName b i
  pub is : e ≡ BadName named.Section i

-- the bytes of text in a section
abbrev pub text_size : SectionHeader → ℕ
text_size h = if is_text_header h then h.size else 0

-- and in all sections
unfoldable pub file_text_bytes : List ℕ → ℕ
file_text_bytes b = sum_by text_size (map (section_header b) (range_with_len 0 (section_count b)))

abbrev pub HasLittleText : List ℕ → Type 0
HasLittleText b = file_text_bytes b ≤ MAX_TEXT_BYTES

pub record IsMuchText (b : List ℕ) (e : ElfFault) : Type 0 where
  pub fails : ¬ HasLittleText b
  pub is : e ≡ TooMany TextBytes (file_text_bytes b)
