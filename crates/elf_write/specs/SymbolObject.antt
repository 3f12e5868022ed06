-- What the object with the section symbols says, and where they may be inserted.
use Rattle.std.specs.Prelude.{ℕ, ◌<◌, ◌≤◌, ◌+◌, ◌*◌, ◌^◌, ◌==◌, List, [], ◌∷◌, ◌++◌, All, AllPairs, IsSome, length, take, drop, map, if◌then◌else◌}
use Rattle.elf_objects.specs.Contents.{section_at}
use Rattle.elf_objects.specs.Elf.{Elf, SectionEntry, SymbolEntry}
use Rattle.elf_objects.specs.declared.TheConstants.{MAX_SYMBOLS, SHT_SYMTAB, SHT_RELA, SHT_GROUP, SHT_SYMTAB_SHNDX, SHN_LORESERVE, STB_LOCAL, STT_SECTION}
use Rattle.elf_objects.specs.declared.symbol.Home.TheVariants as home
use Rattle.elf_objects.specs.declared.symbol.Reloc.{Reloc}
use Rattle.elf_objects.specs.Table.{string_at}
use Rattle.elf_write.specs.declared.plan.Plan.{Plan}
use Rattle.elf_write.specs.SymbolLayout.{changed, extended, headers_place, index_table, locals, longer_numbers, longer_symbols, numbers_place, plan_of, reloc_changes, renumbered, symbol_section, symbols_inserted, symbols_place}

-- Where section symbols may be inserted for these sections.
pub record CanInsert (o : Elf) (secs : List ℕ) : Type 0 where
  -- by rising numbers, which are those of sections but section 0
  pub rising : AllPairs (λ a b. a < b) secs
  pub some : All (λ s. 1 ≤ s) secs
  pub exist : All (λ s. s < length o.sections) secs
  -- the object has symbols, and with the new ones not too many
  pub symbols : 0 < length secs → 1 ≤ length o.symbols
  pub few : length o.symbols + length secs ≤ MAX_SYMBOLS
  -- a number from 0xFF00 on needs a table of section numbers
  pub numbers : All (λ s. SHN_LORESERVE ≤ s → IsSome (index_table o)) secs
  pub short : length (symbols_inserted o secs) < 2 ^ 32

-- The symbol that stands for a section. Its name is the text at 0 of the symbols' string table, which is empty in every
-- table that begins with a zero byte, as the gABI asks.
abbrev pub symbol_for : Elf → ℕ → SymbolEntry
symbol_for o sec = record {
  name = string_at (section_at o (symbol_section o).link).body 0;
  bind = STB_LOCAL;
  kind = STT_SECTION;
  other = 0;
  home = home.Section sec;
  value = 0;
  size = 0;
}

-- a relocation that names its symbol by the new number
abbrev pub renumbered_reloc : Elf → List ℕ → Reloc → Reloc
renumbered_reloc o secs r = record r { sym = renumbered (locals o) (length secs) r.sym }

-- the body of a section of relocations, with the new numbers
abbrev pub renumbered_body : Plan → List ℕ → List ℕ
renumbered_body p body = changed (reloc_changes p body) body

-- a section of the object: the tables are longer and stand elsewhere, and symbols have their new numbers
abbrev pub section_with : Elf → List ℕ → SectionEntry → SectionEntry
section_with o secs s =
    if s.kind == SHT_RELA then record s { body = renumbered_body (plan_of o secs) s.body }
    else if s.kind == SHT_SYMTAB then record s {
      offset = symbols_place o;
      size = s.size + 24 * length secs;
      info = s.info + length secs;
      body = longer_symbols o secs;
    }
    else if s.kind == SHT_SYMTAB_SHNDX then record s {
      offset = numbers_place o secs;
      size = s.size + 4 * length secs;
      body = longer_numbers o secs s.body;
    }
    else if s.kind == SHT_GROUP then record s { info = renumbered (locals o) (length secs) s.info }
    else s

-- the symbols: the local ones, the new ones, the others
abbrev pub symbols_with : Elf → List ℕ → List SymbolEntry
symbols_with o secs = take (locals o) o.symbols ++ map (symbol_for o) secs ++ drop (locals o) o.symbols

-- the object with section symbols
abbrev pub extended_object : Elf → List ℕ → Elf
extended_object o secs = record {
  bytes = extended o secs;
  headers_at = headers_place o secs;
  name_table = o.name_table;
  sections = map (section_with o secs) o.sections;
  symbol_table = o.symbol_table;
  symbols = symbols_with o secs;
  relocs = map (map (renumbered_reloc o secs)) o.relocs;
}

-- which is the object itself where none is inserted
abbrev pub object_with_symbols : Elf → List ℕ → Elf
object_with_symbols o [] = o
object_with_symbols o (sec ∷ secs) = extended_object o (sec ∷ secs)
