-- What is lent of an object, as the values that it stands for.
use Rattle.std.specs.Prelude.{◌≡◌, ◌≢◌, ◌≤◌, ◌+◌, ℕ, List, [], length, slice_range}
use Rattle.elf_objects.specs.declared.section.Section.{Section}
use Rattle.elf_objects.specs.declared.symbol.Symbol.{Symbol}
use Rattle.elf_objects.specs.Elf.{SectionEntry, SymbolEntry}
use Rattle.elf_objects.specs.declared.TheConstants.{SHT_NULL, SHT_NOBITS}

-- a section that is lent, with its name
abbrev pub lent_section : List ℕ → Section → SectionEntry
lent_section name s = record {
  name = name;
  kind = s.kind;
  flags = s.flags;
  addr = s.addr;
  offset = s.offset;
  size = s.size;
  link = s.link;
  info = s.info;
  align = s.align;
  entsize = s.entsize;
  body = s.body.now;
}

-- a symbol that is lent, with its name
abbrev pub lent_symbol : List ℕ → Symbol → SymbolEntry
lent_symbol name s = record {
  name = name;
  bind = s.bind;
  kind = s.kind;
  other = s.other;
  home = s.home;
  value = s.value;
  size = s.size;
}

-- the body of a section is its bytes of the file, unless its type has none there
pub record IsSlice (bytes : List ℕ) (s : SectionEntry) : Type 0 where
  pub inside : s.kind ≢ SHT_NULL → s.kind ≢ SHT_NOBITS → s.offset + s.size ≤ length bytes
  pub body : s.kind ≢ SHT_NULL → s.kind ≢ SHT_NOBITS → s.body ≡ slice_range bytes s.offset (s.offset + s.size)
  pub null : s.kind ≡ SHT_NULL → s.body ≡ []
  pub nobits : s.kind ≡ SHT_NOBITS → s.body ≡ []
