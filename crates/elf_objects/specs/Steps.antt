-- The steps that go over all sections or all symbols of a file.
use Rattle.std.specs.Prelude.{ℕ, List}
use Rattle.elf_objects.specs.declared.fault.ElfFault.{ElfFault}
use Rattle.elf_objects.specs.declared.headers.Headers.{Headers}
use Rattle.elf_objects.specs.declared.symbols.Symbols.{Symbols}
use Rattle.elf_objects.specs.Below.{AllBelow, FirstBelow}
use Rattle.elf_objects.specs.File.{section_count}
use Rattle.elf_objects.specs.Table.{symbol_count}

-- the whole file
abbrev pub file : Headers → List ℕ
file headers = headers.bytes.now

abbrev pub symbols_file : Symbols → List ℕ
symbols_file symbols = symbols.headers.bytes.now

-- each section of the file has it
abbrev pub EachSection : (List ℕ → ℕ → Type 0) → List ℕ → Type 0
EachSection P b = AllBelow (P b) (section_count b)

-- the fault is that of the first section without it
abbrev pub FirstSection : (List ℕ → ℕ → Type 0) → (List ℕ → ℕ → ElfFault → Type 0) → List ℕ → ElfFault → Type 0
FirstSection P F b = FirstBelow (P b) (F b) (section_count b)

-- the same of the symbols
abbrev pub EachSymbol : (List ℕ → ℕ → Type 0) → List ℕ → Type 0
EachSymbol P b = AllBelow (P b) (symbol_count b)

abbrev pub FirstSymbol : (List ℕ → ℕ → Type 0) → (List ℕ → ℕ → ElfFault → Type 0) → List ℕ → ElfFault → Type 0
FirstSymbol P F b = FirstBelow (P b) (F b) (symbol_count b)
