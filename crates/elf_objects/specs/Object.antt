-- Well-formed objects, and the first fault of bytes that are none.
use Rattle.std.specs.Prelude.{◌≡◌, ◌⊎◌, ℕ, List}
use Rattle.elf_objects.specs.declared.fault.ElfFault.{ElfFault}
use Rattle.elf_objects.specs.declared.fault.ElfFault.TheVariants.{NoMemory}
use Rattle.elf_objects.specs.Below.{AllBelow, FirstBelow}
use Rattle.elf_objects.specs.Contents.{elf_of}
use Rattle.elf_objects.specs.Elf.{Elf}
use Rattle.elf_objects.specs.File.{HasTable, TableFault, section_count}
use Rattle.elf_objects.specs.Sections.{BodyFault, FormFault, HasBody, HasForm, HasLinks, HasLittleText, IsMuchText, HasName, LinkFault, NameFault}
use Rattle.elf_objects.specs.Symbols.{AreManySymbols, HasFewSymbols, HasRelocs, IsSymbol, RelocsFault, SymbolFault}
use Rattle.elf_objects.specs.Table.{symbol_count}

-- The steps that a file has to pass, each one a fact of its own, in their order. Those up to the section
-- header table are the fields of HasTable.
pub record IsWellFormed (b : List ℕ) : Type 0 where
  pub table : HasTable b
  pub bodies : AllBelow (HasBody b) (section_count b)
  pub forms : AllBelow (HasForm b) (section_count b)
  pub links : AllBelow (HasLinks b) (section_count b)
  pub names : AllBelow (HasName b) (section_count b)
  pub few_symbols : HasFewSymbols b
  pub symbols : AllBelow (IsSymbol b) (symbol_count b)
  pub relocs : AllBelow (HasRelocs b) (section_count b)
  pub little_text : HasLittleText b

-- the bytes are those of an object, and o is what they say
pub record IsObject (b : List ℕ) (o : Elf) : Type 0 where
  pub well_formed : IsWellFormed b
  pub says : o ≡ elf_of b

-- the steps before the names of sections, and those before the relocations
pub record HasSections (b : List ℕ) : Type 0 where
  pub table : HasTable b
  pub bodies : AllBelow (HasBody b) (section_count b)
  pub forms : AllBelow (HasForm b) (section_count b)
  pub links : AllBelow (HasLinks b) (section_count b)
  pub names : AllBelow (HasName b) (section_count b)

pub record HasSymbols (b : List ℕ) : Type 0 where
  pub sections : HasSections b
  pub few : HasFewSymbols b
  pub symbols : AllBelow (IsSymbol b) (symbol_count b)

-- The fault of the first step that fails, at the lowest index.
pub data FirstFault (b : List ℕ) (e : ElfFault) : Type 0 where
  table : TableFault b e → FirstFault b e
  bodies : HasTable b → FirstBelow (HasBody b) (BodyFault b) (section_count b) e → FirstFault b e
  forms :
      HasTable b
      → AllBelow (HasBody b) (section_count b)
      → FirstBelow (HasForm b) (FormFault b) (section_count b) e
      → FirstFault b e
  links :
      HasTable b
      → AllBelow (HasBody b) (section_count b)
      → AllBelow (HasForm b) (section_count b)
      → FirstBelow (HasLinks b) (LinkFault b) (section_count b) e
      → FirstFault b e
  names :
      HasTable b
      → AllBelow (HasBody b) (section_count b)
      → AllBelow (HasForm b) (section_count b)
      → AllBelow (HasLinks b) (section_count b)
      → FirstBelow (HasName b) (NameFault b) (section_count b) e
      → FirstFault b e
  many_symbols : HasSections b → AreManySymbols b e → FirstFault b e
  symbols : HasSections b → HasFewSymbols b → FirstBelow (IsSymbol b) (SymbolFault b) (symbol_count b) e → FirstFault b e
  relocs : HasSymbols b → FirstBelow (HasRelocs b) (RelocsFault b) (section_count b) e → FirstFault b e
  much_text :
      HasSymbols b
      → AllBelow (HasRelocs b) (section_count b)
      → IsMuchText b e
      → FirstFault b e

-- why a call refuses: a fault, or want of memory
abbrev pub Refuses : (ElfFault → Type 0) → ElfFault → Type 0
Refuses F e = (e ≡ NoMemory) ⊎ F e
