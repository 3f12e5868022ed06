-- What the bytes of a well-formed object say.
use Rattle.std.specs.Prelude.{ℕ, ◌/◌, ◌%◌, ◌==◌, ◌&&◌, not, Bool, false, List, [], map, length, get_or, Option, bit_and}
use Rattle.std.specs.List.{range_with_len}
use Rattle.elf_objects.specs.declared.header.SectionHeader.{SectionHeader}
use Rattle.elf_objects.specs.declared.symbol.Home.{Home}
use Rattle.elf_objects.specs.declared.symbol.Home.TheVariants as homes
use Rattle.elf_objects.specs.declared.symbol.Reloc.{Reloc}
use Rattle.elf_objects.specs.declared.symbol.RawSymbol.{RawSymbol}
use Rattle.elf_objects.specs.Below.{least_below}
use Rattle.elf_objects.specs.Elf.{Elf, SectionEntry, SymbolEntry}
use Rattle.elf_objects.specs.File.{headers_at, section_count, section_header, name_table}
use Rattle.elf_objects.specs.declared.TheConstants.{SHT_PROGBITS, SHF_EXECINSTR, STT_SECTION}
use Rattle.elf_objects.specs.Table.{body_of, header_of, name_header, raw_symbol, rela_of, reloc_of, string_at, string_header, symbol_count, symbol_home, symbol_table}

abbrev pub entry_of_header : List ℕ → SectionHeader → SectionEntry
entry_of_header b h = record {
  name = string_at (body_of b (name_header b)) h.name;
  kind = h.kind;
  flags = h.flags;
  addr = h.addr;
  offset = h.offset;
  size = h.size;
  link = h.link;
  info = h.info;
  align = h.align;
  entsize = h.entsize;
  body = body_of b h;
}

-- the section with an index
unfoldable pub section_entry : List ℕ → ℕ → SectionEntry
section_entry b i = entry_of_header b (section_header b i)

abbrev pub entry_of_symbol : List ℕ → RawSymbol → Home → SymbolEntry
entry_of_symbol b s home = record {
  name = string_at (body_of b (string_header b)) s.name;
  bind = s.info / 16;
  kind = s.info % 16;
  other = s.other;
  home = home;
  value = s.value;
  size = s.size;
}

-- the symbol with an index
unfoldable pub symbol_entry : List ℕ → ℕ → SymbolEntry
symbol_entry b k = entry_of_symbol b (raw_symbol b k) (symbol_home b k)

-- the relocations of a section: the entries of the section of relocations whose sh_info it is
unfoldable pub relocs_of : List ℕ → ℕ → List Reloc
relocs_of b s = let h = header_of b (rela_of b s) in map (reloc_of b h) (range_with_len 0 (h.size / 24))

-- the whole of it
abbrev pub elf_of : List ℕ → Elf
elf_of b = record {
  bytes = b;
  headers_at = headers_at b;
  name_table = name_table b;
  sections = map (section_entry b) (range_with_len 0 (section_count b));
  symbol_table = symbol_table b;
  symbols = map (symbol_entry b) (range_with_len 0 (symbol_count b));
  relocs = map (relocs_of b) (range_with_len 0 (section_count b));
}

-- where an index is that of nothing
abbrev pub no_section : SectionEntry
no_section = record {
  name = [];
  kind = 0;
  flags = 0;
  addr = 0;
  offset = 0;
  size = 0;
  link = 0;
  info = 0;
  align = 0;
  entsize = 0;
  body = [];
}

abbrev pub no_symbol : SymbolEntry
no_symbol = record {
  name = [];
  bind = 0;
  kind = 0;
  other = 0;
  home = homes.Undefined;
  value = 0;
  size = 0;
}

-- the section, the symbol, and the relocations of the section, with an index
abbrev pub section_at : Elf → ℕ → SectionEntry
section_at o i = get_or o.sections i no_section

abbrev pub symbol_at : Elf → ℕ → SymbolEntry
symbol_at o k = get_or o.symbols k no_symbol

abbrev pub relocs_at : Elf → ℕ → List Reloc
relocs_at o i = get_or o.relocs i []

-- a text section has code: SHT_PROGBITS with SHF_EXECINSTR
abbrev pub is_text : SectionEntry → Bool
is_text s = (s.kind == SHT_PROGBITS) && not (bit_and s.flags SHF_EXECINSTR == 0)

-- the symbol is defined in the section
abbrev pub is_home : ℕ → Home → Bool
is_home i (homes.Section j) = i == j
is_home i homes.Undefined = false
is_home i homes.Absolute = false
is_home i homes.Common = false

-- the symbol stands for the section: its type is STT_SECTION, and it is defined at the beginning of the section
abbrev pub stands_for : ℕ → SymbolEntry → Bool
stands_for i s = (s.kind == STT_SECTION) && (s.value == 0) && is_home i s.home

-- the first symbol that stands for a section
abbrev pub section_symbol_of : Elf → ℕ → Option ℕ
section_symbol_of o i = least_below (λ k. stands_for i (symbol_at o k)) (length o.symbols)
