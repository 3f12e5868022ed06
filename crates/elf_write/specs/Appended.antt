-- When sections may be appended to an object, whatever their types, and what the result reads as.
use Rattle.std.specs.Prelude.{ℕ, ◌≡◌, ◌≢◌, ◌<◌, ◌≤◌, ◌+◌, ◌^◌, List, [], All, length}
use Rattle.elf_objects.specs.Below.{AllBelow}
use Rattle.elf_objects.specs.Contents.{elf_of}
use Rattle.elf_objects.specs.Elf.{Elf}
use Rattle.elf_objects.specs.File.{name_table}
use Rattle.elf_objects.specs.declared.TheConstants.{MAX_SECTIONS, SHT_NULL, SHT_NOBITS}
use Rattle.elf_objects.specs.Object.{IsWellFormed}
use Rattle.elf_objects.specs.Sections.{HasForm, HasLinks, HasLittleText}
use Rattle.elf_objects.specs.Symbols.{HasFewSymbols, HasRelocs, IsSymbol}
use Rattle.elf_objects.specs.Table.{symbol_count}
use Rattle.elf_write.specs.Added.{HasFields, object_with}
use Rattle.elf_write.specs.Layout.{NewEntry}
use Rattle.elf_write.specs.Object.{appended_to}

-- a section that is right by itself: its name has no zero byte, its numbers fit, and it has a body only where its type has one
pub record IsGiven (e : NewEntry) : Type 0 where
  pub name : All (λ c. c ≢ 0) e.name
  pub fields : HasFields e
  pub null : e.kind ≡ SHT_NULL → e.body ≡ []
  pub bits : e.kind ≡ SHT_NOBITS → e.body ≡ []

-- The new sections are right by themselves, neither they nor the file are too many, and with them behind the old ones the
-- types, links, symbols, relocations and text are those of a well-formed object.
pub record CanAppend (o : Elf) (new : List NewEntry) : Type 0 where
  pub each : All IsGiven new
  pub few : length o.sections + length new ≤ MAX_SECTIONS
  pub size : length (appended_to o new) < 2 ^ 32
  pub forms : AllBelow (HasForm (appended_to o new)) (length o.sections + length new)
  pub links : AllBelow (HasLinks (appended_to o new)) (length o.sections + length new)
  pub few_symbols : HasFewSymbols (appended_to o new)
  pub symbols : AllBelow (IsSymbol (appended_to o new)) (symbol_count (appended_to o new))
  pub relocs : AllBelow (HasRelocs (appended_to o new)) (length o.sections + length new)
  pub little_text : HasLittleText (appended_to o new)

-- The file is a well-formed object. Its sections are the old ones, of which the name table is longer, and then the new ones.
pub record ReadsMore (o : Elf) (new : List NewEntry) (file : List ℕ) : Type 0 where
  pub well_formed : IsWellFormed file
  pub sections : (elf_of file).sections ≡ (object_with o new).sections
  pub table : name_table file ≡ o.name_table
