-- What an object that is made says.
use Rattle.std.specs.Prelude.{◌≡◌, ℕ, ◌+◌, ◌-◌, ◌<◌, ◌==◌, ◌&&◌, List, [], ◌∷◌, length, map, Option, Some, None, if◌then◌else◌}
use Rattle.std.specs.List.{find}
use Rattle.elf_objects.specs.declared.TheConstants.{SHT_RELA}
use Rattle.elf_objects.specs.declared.symbol.Reloc.{Reloc}
use Rattle.elf_objects.specs.Contents.{no_symbol, relocs_at}
use Rattle.elf_objects.specs.Elf.{Elf, SectionEntry, SymbolEntry}
use Rattle.elf_write.specs.Added.{new_section, relocs_in}
use Rattle.elf_write.specs.Layout.{NewEntry, long_count}
use Rattle.demo_objects.specs.Layout.{headers_place, long_index, next_multiple}
use Rattle.demo_objects.specs.Made.{all_sections, has_relocs, relocs_for, symbols_number}
use Rattle.demo_objects.specs.Spec.{NewSymbol, Spec}

-- section 0, where there are so many sections
abbrev pub first_section : ℕ → SectionEntry
first_section count = record {
  name = [];
  kind = 0;
  flags = 0;
  addr = 0;
  offset = 0;
  size = long_count count;
  link = long_index (count - 1);
  info = 0;
  align = 0;
  entsize = 0;
  body = [];
}

-- the other sections, where what stands before their bodies ends at `at`
abbrev pub placed_sections : ℕ → List NewEntry → List SectionEntry
placed_sections at [] = []
placed_sections at (e ∷ es) =
    new_section (next_multiple e.align at) e ∷ placed_sections (next_multiple e.align at + length e.body) es

abbrev pub said_symbol : NewSymbol → SymbolEntry
said_symbol s = record {
  name = s.name;
  bind = s.bind;
  kind = s.kind;
  other = 0;
  home = s.home;
  value = s.value;
  size = s.size;
}

-- the relocations of a section that a section of the spec holds in its body
abbrev pub held_relocs : List NewEntry → ℕ → List Reloc
held_relocs es sec = chosen (find (λ e. (e.kind == SHT_RELA) && (e.info == sec)) es) where
  chosen : Option NewEntry → List Reloc
  chosen (Some e) = relocs_in e.body
  chosen None = []

-- the relocations of a section: those that the spec has for it, or those in the body of a section of the spec
abbrev pub said_relocs : Spec → ℕ → List Reloc
said_relocs s sec = if has_relocs s.relocs sec then relocs_for s.relocs sec else held_relocs s.sections sec

-- The object has exactly the sections, symbols and relocations of the spec, and the tables that go with them: section 0
-- and all others at their places, the null symbol and those given in their order, and of each section its relocations.
pub record IsMadeFrom (s : Spec) (o : Elf) : Type 0 where
  pub headers_at : o.headers_at ≡ headers_place (all_sections s)
  pub name_table : o.name_table ≡ length (all_sections s)
  pub symbol_table : o.symbol_table ≡ Some (symbols_number s)
  pub sections : o.sections ≡ first_section (length (all_sections s) + 1) ∷ placed_sections 64 (all_sections s)
  pub symbols : o.symbols ≡ no_symbol ∷ map said_symbol s.symbols
  pub relocs : (sec : ℕ) → sec < length o.sections → relocs_at o sec ≡ said_relocs s sec
