-- The special tables among the sections, and what stands in them.
use Rattle.std.specs.Prelude.{ℕ, ◌+◌, ◌*◌, ◌/◌, ◌%◌, ◌^◌, ◌==◌, ◌&&◌, Bool, List, [], Option, Some, None, drop, slice_index, slice_range, if◌then◌else◌}
use Rattle.std.specs.Int.{w64, cast_signed}
use Rattle.elf_objects.specs.declared.header.SectionHeader.{SectionHeader}
use Rattle.elf_objects.specs.declared.symbol.Home.{Home}
use Rattle.elf_objects.specs.declared.symbol.Home.TheVariants as home
use Rattle.elf_objects.specs.declared.symbol.Reloc.{Reloc}
use Rattle.elf_objects.specs.declared.symbol.RawSymbol.{RawSymbol}
use Rattle.elf_objects.specs.Below.{least_below}
use Rattle.elf_objects.specs.File.{section_count, section_header, name_table}
use Rattle.elf_objects.specs.Header.{has_body, null_header}
use Rattle.elf_objects.specs.declared.TheConstants.{SHT_SYMTAB, SHT_SYMTAB_SHNDX, SHT_RELA, SHN_UNDEF, SHN_ABS, SHN_COMMON, SHN_XINDEX}
use Rattle.elf_objects.specs.Number.{half, word, xword}
use Rattle.elf_objects.specs.Strings.{up_to_zero}

-- the section has this type
abbrev pub is_kind : List ℕ → ℕ → ℕ → Bool
is_kind b kind i = (section_header b i).kind == kind

-- the first section of a type
abbrev pub first_of_kind : List ℕ → ℕ → Option ℕ
first_of_kind b kind = least_below (is_kind b kind) (section_count b)

-- the symbol table, and the table of section numbers that do not fit st_shndx
abbrev pub symbol_table : List ℕ → Option ℕ
symbol_table b = first_of_kind b SHT_SYMTAB

abbrev pub index_table : List ℕ → Option ℕ
index_table b = first_of_kind b SHT_SYMTAB_SHNDX

-- the header of a section that may be missing
unfoldable pub header_of : List ℕ → Option ℕ → SectionHeader
header_of b None = null_header
header_of b (Some i) = section_header b i

abbrev pub symbol_header : List ℕ → SectionHeader
symbol_header b = header_of b (symbol_table b)

abbrev pub index_header : List ℕ → SectionHeader
index_header b = header_of b (index_table b)

-- the header of the symbols' string table
abbrev pub string_header : List ℕ → SectionHeader
string_header b = section_header b (symbol_header b).link

abbrev pub name_header : List ℕ → SectionHeader
name_header b = section_header b (name_table b)

-- the body of a section: its bytes in the file
unfoldable pub body_of : List ℕ → SectionHeader → List ℕ
body_of b h = if has_body h then slice_range b h.offset (h.offset + h.size) else []

-- the text in a string table from an offset up to its zero byte
unfoldable pub string_at : List ℕ → ℕ → List ℕ
string_at table at = up_to_zero (drop at table)

-- the symbol in the 24 bytes from an offset, Elf64_Sym
unfoldable pub raw_symbol_at : List ℕ → ℕ → RawSymbol
raw_symbol_at b at = record {
  name = word b at;
  info = slice_index b (at + 4);
  other = slice_index b (at + 5);
  shndx = half b (at + 6);
  value = xword b (at + 8);
  size = xword b (at + 16);
}

-- the relocation in the 24 bytes from an offset, Elf64_Rela
unfoldable pub reloc_at : List ℕ → ℕ → Reloc
reloc_at b at = record {
  offset = xword b at;
  kind = xword b (at + 8) % 2 ^ 32;
  sym = xword b (at + 8) / 2 ^ 32;
  addend = cast_signed w64 (xword b (at + 16));
}

-- how many symbols there are
unfoldable pub symbol_count : List ℕ → ℕ
symbol_count b = (symbol_header b).size / 24

-- the symbol with an index, and its number in the table of section numbers
unfoldable pub raw_symbol : List ℕ → ℕ → RawSymbol
raw_symbol b k = raw_symbol_at b ((symbol_header b).offset + 24 * k)

unfoldable pub index_entry : List ℕ → ℕ → ℕ
index_entry b k = word b ((index_header b).offset + 4 * k)

-- the section with a number, where 0 is none
abbrev pub section_home : ℕ → Home
section_home i = if i == SHN_UNDEF then home.Undefined else home.Section i

-- where a symbol is defined, from its st_shndx and its entry in the table of section numbers
abbrev pub home_of : ℕ → ℕ → Home
home_of shndx entry =
    if shndx == SHN_ABS then home.Absolute
    else if shndx == SHN_COMMON then home.Common
    else if shndx == SHN_XINDEX then section_home entry
    else section_home shndx

unfoldable pub symbol_home : List ℕ → ℕ → Home
symbol_home b k = home_of (raw_symbol b k).shndx (index_entry b k)

-- the section i has the relocations of the section s
abbrev pub is_rela_of : List ℕ → ℕ → ℕ → Bool
is_rela_of b s i = ((section_header b i).kind == SHT_RELA) && ((section_header b i).info == s)

-- the section with the relocations of the section s
unfoldable pub rela_of : List ℕ → ℕ → Option ℕ
rela_of b s = least_below (is_rela_of b s) (section_count b)

-- the relocation k of a section of relocations
unfoldable pub reloc_of : List ℕ → SectionHeader → ℕ → Reloc
reloc_of b h k = reloc_at b (h.offset + 24 * k)
