-- What is tested of a spec before its sections are laid out, and of the sections.
use Rattle.std.specs.Prelude.{◌+◌, ◌-◌, ◌<◌, ◌^◌, List, length}
use Rattle.elf_objects.specs.declared.TheConstants.{MAX_SECTIONS}
use Rattle.elf_write.specs.Layout.{NewEntry}
use Rattle.demo_objects.specs.CanMake.{HasParts, HaveHomes}
use Rattle.demo_objects.specs.Layout.{file_of}
use Rattle.demo_objects.specs.Made.{strings_body}
use Rattle.demo_objects.specs.Spec.{NewSymbol, Spec}

pub record PartsFit (s : Spec) : Type 0 where
  pub few_sections : length s.sections < MAX_SECTIONS
  pub few_symbols : length s.symbols < 2 ^ 32 - 1
  pub parts : HasParts s
  pub strings : length (strings_body s.symbols) < 2 ^ 32

pub record SectionsFit (sections : List NewEntry) (symbols : List NewSymbol) : Type 0 where
  pub few : length sections < MAX_SECTIONS
  pub homes : HaveHomes (length sections + 1) symbols
  pub short : length (file_of sections) < 2 ^ 32
