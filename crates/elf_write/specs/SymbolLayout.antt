-- The layout of an object into which section symbols are inserted: what was there stays where it is, but for the symbol
-- numbers in relocations; the longer symbol table, the longer table of section numbers where there is one, and the
-- section headers stand behind it, each at the next multiple of 8 (ELF-64 gABI: symbol table, section header table).
use Rattle.std.specs.Prelude.{ℕ, ◌+◌, ◌*◌, ◌/◌, ◌==◌, List, [], ◌∷◌, ◌++◌, length, take, drop, map, nat_lt, slice_range, Option, Some, None, if◌then◌else◌}
use Rattle.std.specs.List.{flat_map, range_with_len}
use Rattle.elf_objects.specs.Below.{least_below}
use Rattle.elf_objects.specs.Contents.{no_section, section_at}
use Rattle.elf_objects.specs.Elf.{Elf, SectionEntry}
use Rattle.elf_objects.specs.declared.TheConstants.{SHT_SYMTAB, SHT_RELA, SHT_GROUP, SHT_SYMTAB_SHNDX, SHN_LORESERVE, SHN_XINDEX, STT_SECTION}
use Rattle.elf_objects.specs.Table.{reloc_at}
use Rattle.elf_write.specs.declared.plan.Plan.{Plan}
use Rattle.elf_write.specs.Layout.{aligned, encoded, end_of, laid_out, written}

-- A number that is written over what stands at a place: the place, how many bytes it takes, the number.
pub record Change : Type 0 where
  pub at : ℕ
  pub width : ℕ
  pub number : ℕ

-- the bytes with the changes made, one after the other
abbrev pub changed : List Change → List ℕ → List ℕ
changed [] bytes = bytes
changed (c ∷ cs) bytes = changed cs (written c.at (encoded c.width c.number) bytes)

-- the bytes with a piece in front of those from `at` on
abbrev pub inserted : ℕ → List ℕ → List ℕ → List ℕ
inserted at piece bytes = take at bytes ++ piece ++ drop at bytes

-- The symbol table and the table of section numbers.

abbrev pub section_or_none : Elf → Option ℕ → SectionEntry
section_or_none o None = no_section
section_or_none o (Some i) = section_at o i

-- the symbol table
abbrev pub symbol_section : Elf → SectionEntry
symbol_section o = section_or_none o o.symbol_table

-- the number of the table of section numbers, where there is one
abbrev pub index_table : Elf → Option ℕ
index_table o = least_below (λ i. (section_at o i).kind == SHT_SYMTAB_SHNDX) (length o.sections)

-- how many symbols are local: the new ones stand right behind these
abbrev pub locals : Elf → ℕ
locals o = (symbol_section o).info

-- the new number of a symbol, where `count` symbols are inserted in front of the symbol `first`
abbrev pub renumbered : ℕ → ℕ → ℕ → ℕ
renumbered first count k = if nat_lt k first then k else k + count

-- st_shndx of a symbol of the section with a number, and its entry in the table of section numbers: from 0xFF00 on the
-- number stands there (ELF-64 gABI, SHN_XINDEX)
abbrev pub short_number : ℕ → ℕ
short_number sec = if nat_lt sec SHN_LORESERVE then sec else SHN_XINDEX

abbrev pub long_number : ℕ → ℕ
long_number sec = if nat_lt sec SHN_LORESERVE then 0 else sec

-- the 24 bytes of a section symbol, Elf64_Sym: no name, STB_LOCAL and STT_SECTION, value and size 0
unfoldable pub symbol_bytes : ℕ → List ℕ
symbol_bytes sec =
    encoded 4 0 ++ (STT_SECTION ∷ 0 ∷ []) ++ encoded 2 (short_number sec) ++ encoded 8 0 ++ encoded 8 0

-- its entry in the table of section numbers, Elf32_Word
abbrev pub number_bytes : ℕ → List ℕ
number_bytes sec = encoded 4 (long_number sec)

-- the body of the symbol table with the new symbols
abbrev pub longer_symbols : Elf → List ℕ → List ℕ
longer_symbols o secs = inserted (24 * locals o) (flat_map symbol_bytes secs) (symbol_section o).body

-- the body of the table of section numbers with theirs
abbrev pub longer_numbers : Elf → List ℕ → List ℕ → List ℕ
longer_numbers o secs body = inserted (4 * locals o) (flat_map number_bytes secs) body

-- The pieces behind the input.

abbrev pub numbers_of : Elf → List ℕ → Option ℕ → List (List ℕ)
numbers_of o secs None = []
numbers_of o secs (Some i) = longer_numbers o secs (section_at o i).body ∷ []

-- the longer tables
abbrev pub tables : Elf → List ℕ → List (List ℕ)
tables o secs = longer_symbols o secs ∷ numbers_of o secs (index_table o)

-- where they and the headers go
abbrev pub symbols_place : Elf → ℕ
symbols_place o = aligned (length o.bytes)

abbrev pub numbers_place : Elf → List ℕ → ℕ
numbers_place o secs = aligned (symbols_place o + length (longer_symbols o secs))

abbrev pub headers_place : Elf → List ℕ → ℕ
headers_place o secs = aligned (end_of (length o.bytes) (tables o secs))

-- the section headers of the input
abbrev pub old_headers : Elf → List ℕ
old_headers o = slice_range o.bytes o.headers_at (o.headers_at + 64 * length o.sections)

-- where the pieces go, and how symbols get new numbers
abbrev pub plan_of : Elf → List ℕ → Plan
plan_of o secs = record {
  locals = locals o;
  count = length secs;
  symbols_at = symbols_place o;
  numbers_at = numbers_place o secs;
  headers_at = headers_place o secs;
}

-- The changes.

-- e_shoff, the 8 bytes at 40
abbrev pub headers_change : Plan → Change
headers_change p = record { at = 40; width = 8; number = p.headers_at }

-- the symbol number of the relocation k in the body of a section of relocations: the high 4 bytes of r_info
abbrev pub reloc_change : Plan → List ℕ → ℕ → Change
reloc_change p body k = record {
  at = 24 * k + 12;
  width = 4;
  number = renumbered p.locals p.count (reloc_at body (24 * k)).sym;
}

-- those of all relocations in the body
abbrev pub reloc_changes : Plan → List ℕ → List Change
reloc_changes p body = map (reloc_change p body) (range_with_len 0 (length body / 24))

-- the same change, where what it is made in begins at `from`
abbrev pub moved : ℕ → Change → Change
moved from c = record c { at = from + c.at }

-- sh_offset, sh_size and sh_info in the symbol table's header
abbrev pub symbol_changes : Plan → SectionEntry → List Change
symbol_changes p s =
    record { at = 24; width = 8; number = p.symbols_at }
    ∷ record { at = 32; width = 8; number = s.size + 24 * p.count }
    ∷ record { at = 44; width = 4; number = s.info + p.count }
    ∷ []

-- sh_offset and sh_size in that of the table of section numbers
abbrev pub number_changes : Plan → SectionEntry → List Change
number_changes p s =
    record { at = 24; width = 8; number = p.numbers_at }
    ∷ record { at = 32; width = 8; number = s.size + 4 * p.count }
    ∷ []

-- sh_info in that of a group: the number of the symbol that names it
abbrev pub group_changes : Plan → SectionEntry → List Change
group_changes p s = record { at = 44; width = 4; number = renumbered p.locals p.count s.info } ∷ []

-- the changes in the header of a section, by its type
abbrev pub header_changes : Plan → SectionEntry → List Change
header_changes p s =
    if s.kind == SHT_SYMTAB then symbol_changes p s
    else if s.kind == SHT_SYMTAB_SHNDX then number_changes p s
    else if s.kind == SHT_GROUP then group_changes p s
    else []

-- the changes for one section, whose header is at `at`: in its body or in its header
abbrev pub changes_at : Plan → ℕ → SectionEntry → List Change
changes_at p at s =
    if s.kind == SHT_RELA then map (moved s.offset) (reloc_changes p s.body) else map (moved at) (header_changes p s)

-- those for the section with a number
unfoldable pub changes_of : Elf → Plan → ℕ → List Change
changes_of o p i = changes_at p (p.headers_at + 64 * i) (section_at o i)

abbrev pub changes : Elf → Plan → List Change
changes o p = headers_change p ∷ flat_map (changes_of o p) (range_with_len 0 (length o.sections))

-- the input, the longer tables and the headers, one behind the other
abbrev pub joined : Elf → List ℕ → List ℕ
joined o secs = laid_out o.bytes (tables o secs ++ old_headers o ∷ [])

-- the object with the section symbols
abbrev pub extended : Elf → List ℕ → List ℕ
extended o secs = changed (changes o (plan_of o secs)) (joined o secs)

-- the same, and the input itself where no symbol is inserted
abbrev pub symbols_inserted : Elf → List ℕ → List ℕ
symbols_inserted o [] = o.bytes
symbols_inserted o (sec ∷ secs) = extended o (sec ∷ secs)
