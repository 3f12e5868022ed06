-- What can be made.
use Rattle.std.specs.Prelude.{◌≡◌, ◌≢◌, ◌+◌, ◌<◌, ◌≤◌, ◌^◌, ℕ, List, [], length, All, FitsSigned}
use Rattle.std.specs.Int.{w64}
use Rattle.elf_objects.specs.declared.TheConstants.{MAX_SECTIONS, SHT_NULL, SHT_NOBITS}
use Rattle.elf_objects.specs.declared.symbol.Home.{Home}
use Rattle.elf_objects.specs.declared.symbol.Home.TheVariants as home
use Rattle.elf_objects.specs.Below.{AllBelow}
use Rattle.elf_objects.specs.File.{section_count}
use Rattle.elf_objects.specs.Sections.{HasForm, HasLinks, HasLittleText}
use Rattle.elf_objects.specs.Symbols.{HasFewSymbols, HasRelocs, IsSymbol}
use Rattle.elf_objects.specs.Table.{symbol_count}
use Rattle.elf_write.specs.Added.{HasFields}
use Rattle.elf_write.specs.Layout.{NewEntry}
use Rattle.demo_objects.specs.declared.spec.RelSpec.{RelSpec}
use Rattle.demo_objects.specs.Made.{all_sections, made}
use Rattle.demo_objects.specs.Spec.{NewSymbol, Spec}

-- a section by itself: its name has no zero byte, it is aligned, and it has a body only where its type has one
pub record IsSection (e : NewEntry) : Type 0 where
  pub name : All (λ c. c ≢ 0) e.name
  pub align : 1 ≤ e.align
  pub no_null : e.kind ≡ SHT_NULL → e.body ≡ []
  pub no_bits : e.kind ≡ SHT_NOBITS → e.body ≡ []

-- the home is one of `count` sections, from number 1 on, or none
abbrev pub IsHome : ℕ → Home → Type 0
IsHome count (home.Section i) = (1 ≤ i) × (i < count)
IsHome count home.Undefined = Unit {0}
IsHome count home.Absolute = Unit {0}
IsHome count home.Common = Unit {0}

-- a symbol by itself
pub record IsNewSymbol (s : NewSymbol) : Type 0 where
  pub name : All (λ c. c ≢ 0) s.name
  pub bind : s.bind < 16
  pub kind : s.kind < 16

-- a relocation by itself: of one of `count` sections, from number 1 on
pub record IsNewReloc (count : ℕ) (r : RelSpec) : Type 0 where
  pub some : 1 ≤ r.sec
  pub known : r.sec ≤ count
  pub offset : r.reloc.offset < 2 ^ 64
  pub kind : r.reloc.kind < 2 ^ 32
  pub sym : r.reloc.sym < 2 ^ 32
  pub addend : FitsSigned w64 r.reloc.addend

-- the parts are right by themselves
pub record HasParts (s : Spec) : Type 0 where
  pub sections : All IsSection s.sections
  pub symbols : All IsNewSymbol s.symbols
  pub relocs : All (IsNewReloc (length s.sections)) s.relocs

-- the value and the size of a symbol are numbers of 64 bits
pub record HasValues (s : NewSymbol) : Type 0 where
  pub value : s.value < 2 ^ 64
  pub size : s.size < 2 ^ 64

-- the fields of the headers and of the symbols have room for the numbers; they have for those of any Spec of the code
pub record HasNumbers (s : Spec) : Type 0 where
  pub sections : All HasFields s.sections
  pub symbols : All HasValues s.symbols

-- the homes of the symbols are sections of the object, or none
abbrev pub HaveHomes : ℕ → List NewSymbol → Type 0
HaveHomes count symbols = All (λ x. IsHome count x.home) symbols

-- The parts are right by themselves, and neither the sections nor the bytes are too many.
pub record CanLayOut (s : Spec) : Type 0 where
  pub parts : HasParts s
  pub numbers : HasNumbers s
  pub few : length (all_sections s) < MAX_SECTIONS
  pub homes : HaveHomes (length (all_sections s) + 1) s.symbols
  pub short : length (made s) < 2 ^ 32

-- And as they are laid out the types, links, symbols (the local ones first) and relocations of the sections are those
-- of a well-formed object.
pub record CanMake (s : Spec) : Type 0 where
  pub laid_out : CanLayOut s
  pub forms : AllBelow (HasForm (made s)) (section_count (made s))
  pub links : AllBelow (HasLinks (made s)) (section_count (made s))
  pub few_symbols : HasFewSymbols (made s)
  pub all_symbols : AllBelow (IsSymbol (made s)) (symbol_count (made s))
  pub all_relocs : AllBelow (HasRelocs (made s)) (section_count (made s))
  pub little_text : HasLittleText (made s)
