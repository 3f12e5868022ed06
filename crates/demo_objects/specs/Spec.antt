-- What the clauses see of a spec.
use Rattle.std.specs.Prelude.{ℕ, List, map}
use Rattle.elf_objects.specs.declared.symbol.Home.{Home}
use Rattle.elf_write.specs.Layout.{NewEntry}
use Rattle.elf_write.specs.New.{entries}
use Rattle.demo_objects.specs.declared.spec.RelSpec.{RelSpec}
use Rattle.demo_objects.specs.declared.spec.Spec.{Spec as Given}
use Rattle.demo_objects.specs.declared.spec.SymSpec.{SymSpec}

-- a symbol that an object is to have
pub record NewSymbol : Type 0 where
  pub name : List ℕ
  pub bind : ℕ
  pub kind : ℕ
  pub home : Home
  pub value : ℕ
  pub size : ℕ

-- what an object is to say: sections and symbols from number 1 on, and relocations
pub record Spec : Type 0 where
  pub sections : List NewEntry
  pub symbols : List NewSymbol
  pub relocs : List RelSpec

abbrev pub symbol_of : SymSpec → NewSymbol
symbol_of s = record { name = s.name.items; bind = s.bind; kind = s.kind; home = s.home; value = s.value; size = s.size }

abbrev pub symbols_of : List SymSpec → List NewSymbol
symbols_of symbols = map symbol_of symbols

abbrev pub spec_of : Given → Spec
spec_of s = record { sections = entries s.sections.items; symbols = symbols_of s.symbols.items; relocs = s.relocs.items }
