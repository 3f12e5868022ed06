-- What must hold of each symbol and each relocation, and the fault where it does not.
use Rattle.std.specs.Prelude.{◌≡◌, ◌↔◌, ◌<◌, ◌≤◌, ◌+◌, ◌/◌, ◌==◌, ◌||◌, ℕ, Bool, List, IsTrue, if◌then◌else◌}
use Rattle.elf_objects.specs.declared.TheConstants.{MAX_SYMBOLS}
use Rattle.elf_objects.specs.declared.fault.NameOf.TheVariants as named
use Rattle.elf_objects.specs.declared.fault.ElfFault.{ElfFault}
use Rattle.elf_objects.specs.declared.fault.ElfFault.TheVariants.{BadName, BadSymbol, BadReloc, TooMany}
use Rattle.elf_objects.specs.declared.fault.Counted.TheVariants.{Symbols}
use Rattle.elf_objects.specs.declared.symbol.Reloc.{Reloc}
use Rattle.elf_objects.specs.Below.{AllBelow, FirstBelow}
use Rattle.elf_objects.specs.File.{section_count, section_header}
use Rattle.elf_objects.specs.Sections.{IsPlain}
use Rattle.elf_objects.specs.declared.header.SectionHeader.{SectionHeader}
use Rattle.elf_objects.specs.declared.TheConstants.{SHN_LORESERVE, SHN_ABS, SHN_COMMON, SHN_XINDEX, STB_LOCAL, SHT_RELA, R_X86_64_64, R_X86_64_PC32, R_X86_64_PLT32, R_X86_64_32, R_X86_64_32S}
use Rattle.elf_objects.specs.Table.{index_entry, index_table, raw_symbol, reloc_of, string_header, symbol_count, symbol_header}
use Rattle.std.specs.Prelude.{IsSome}

abbrev pub HasFewSymbols : List ℕ → Type 0
HasFewSymbols b = symbol_count b ≤ MAX_SYMBOLS

pub record AreManySymbols (b : List ℕ) (e : ElfFault) : Type 0 where
  pub fails : ¬ HasFewSymbols b
  pub is : e ≡ TooMany Symbols (symbol_count b)

-- st_shndx tells where a symbol is defined: no section, one below SHN_LORESERVE, or one that the table of section numbers has.
pub data HasHome (b : List ℕ) (k : ℕ) : Type 0 where
  absolute : (raw_symbol b k).shndx ≡ SHN_ABS → HasHome b k
  common : (raw_symbol b k).shndx ≡ SHN_COMMON → HasHome b k
  plain : (raw_symbol b k).shndx < SHN_LORESERVE → (raw_symbol b k).shndx < section_count b → HasHome b k
  extended : (raw_symbol b k).shndx ≡ SHN_XINDEX → IsSome (index_table b) → index_entry b k < section_count b → HasHome b k

-- the name of a symbol begins in the string table
abbrev pub HasSymbolName : List ℕ → ℕ → Type 0
HasSymbolName b k = (raw_symbol b k).name < (string_header b).size

-- a symbol is local exactly where it is before the boundary
abbrev pub IsOnItsSide : List ℕ → ℕ → Type 0
IsOnItsSide b k = ((raw_symbol b k).info / 16 ≡ STB_LOCAL) ↔ (k < (symbol_header b).info)

pub record IsSymbol (b : List ℕ) (k : ℕ) : Type 0 where
  pub name : HasSymbolName b k
  pub home : HasHome b k
  pub side : IsOnItsSide b k

pub data SymbolFault (b : List ℕ) (k : ℕ) (e : ElfFault) : Type 0 where
  bad_name : ¬ HasSymbolName b k → e ≡ BadName named.Symbol k → SymbolFault b k e
  bad_symbol : HasSymbolName b k → ¬ IsSymbol b k → e ≡ BadSymbol k → SymbolFault b k e

-- the bytes of the field that a relocation changes, where its type is one that is read: 8 for R_X86_64_64, else 4
abbrev pub is_read : ℕ → Bool
is_read kind = (kind == R_X86_64_64) || (kind == R_X86_64_PC32) || (kind == R_X86_64_PLT32) || (kind == R_X86_64_32) || (kind == R_X86_64_32S)

abbrev pub field_size : ℕ → ℕ
field_size kind = if kind == R_X86_64_64 then 8 else 4

-- A relocation names a symbol, and its field lies in the section that it changes. Of a compressed section fields aren't looked at:
-- they are those of its bytes before they were compressed.
pub record IsRelocIn (r : Reloc) (symbols : ℕ) (target : SectionHeader) : Type 0 where
  pub symbol : r.sym < symbols
  pub field : IsPlain target → IsTrue (is_read r.kind) → r.offset + field_size r.kind ≤ target.size

-- so does the relocation k of the section i
abbrev pub IsReloc : List ℕ → ℕ → ℕ → Type 0
IsReloc b i k = IsRelocIn (reloc_of b (section_header b i) k) (symbol_count b) (section_header b (section_header b i).info)

pub record RelocFault (b : List ℕ) (i k : ℕ) (e : ElfFault) : Type 0 where
  pub fails : ¬ IsReloc b i k
  pub is : e ≡ BadReloc i k

-- each relocation of a section of relocations
abbrev pub HasRelocs : List ℕ → ℕ → Type 0
HasRelocs b i = (section_header b i).kind ≡ SHT_RELA → AllBelow (IsReloc b i) ((section_header b i).size / 24)

pub record RelocsFault (b : List ℕ) (i : ℕ) (e : ElfFault) : Type 0 where
  pub kind : (section_header b i).kind ≡ SHT_RELA
  pub first : FirstBelow (IsReloc b i) (RelocFault b i) ((section_header b i).size / 24) e
