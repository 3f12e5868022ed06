-- What an object keeps beside its bytes.
use Rattle.std.specs.Prelude.{◌≡◌, ℕ, List, Option}
use Rattle.elf_objects.specs.declared.header.SectionHeader.{SectionHeader}
use Rattle.elf_objects.specs.File.{section_count}
use Rattle.elf_objects.specs.Found.{AreRelas, AreSectionSymbols}
use Rattle.elf_objects.specs.Object.{IsWellFormed}
use Rattle.elf_objects.specs.Table.{body_of, name_header, string_header, symbol_count}

pub record IsKept (b : List ℕ) (count : ℕ) (names strings : SectionHeader) (ends : List ℕ) (relas symbols : List (Option ℕ)) : Type 0 where
  pub well_formed : IsWellFormed b
  pub count_is : count ≡ symbol_count b
  pub names_is : names ≡ name_header b
  pub strings_is : strings ≡ string_header b
  pub ends_are : ends ≡ body_of b (string_header b)
  pub relas_are : AreRelas b (section_count b) relas
  pub symbols_are : AreSectionSymbols b (symbol_count b) symbols
