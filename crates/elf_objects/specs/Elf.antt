-- What an accepted file says.
use Rattle.std.specs.Prelude.{ℕ, List, Option}
use Rattle.elf_objects.specs.declared.symbol.Home.{Home}
use Rattle.elf_objects.specs.declared.symbol.Reloc.{Reloc}

-- a section: the fields of its header (ELF-64 gABI, section header), its name and its body (empty for NOBITS and NULL)
pub record SectionEntry : Type 0 where
  pub name : List ℕ
  pub kind : ℕ
  pub flags : ℕ
  pub addr : ℕ
  pub offset : ℕ
  pub size : ℕ
  pub link : ℕ
  pub info : ℕ
  pub align : ℕ
  pub entsize : ℕ
  pub body : List ℕ

-- a symbol with its name and its home (ELF-64 gABI, symbol table)
pub record SymbolEntry : Type 0 where
  pub name : List ℕ
  pub bind : ℕ
  pub kind : ℕ
  pub other : ℕ
  pub home : Home
  pub value : ℕ
  pub size : ℕ

-- what an accepted file says
pub record Elf : Type 0 where
  pub bytes : List ℕ
  pub headers_at : ℕ
  pub name_table : ℕ
  pub sections : List SectionEntry
  pub symbol_table : Option ℕ
  pub symbols : List SymbolEntry
  pub relocs : List (List Reloc)
