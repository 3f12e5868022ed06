-- What is known of the special tables while the sections are gone through.
use Rattle.std.specs.Prelude.{◌≡◌, ◌<◌, ℕ, Bool, List, Option, None, length, get_or}
use Rattle.elf_objects.specs.declared.forms.Tables.{Tables}
use Rattle.elf_objects.specs.Below.{least_below}
use Rattle.elf_objects.specs.Contents.{stands_for, symbol_entry}
use Rattle.elf_objects.specs.declared.TheConstants.{SHT_SYMTAB, SHT_SYMTAB_SHNDX}
use Rattle.elf_objects.specs.File.{section_count}
use Rattle.elf_objects.specs.Table.{is_kind, is_rela_of}

-- the tables that are among the first n sections
pub record AreTables (b : List ℕ) (n : ℕ) (t : Tables) : Type 0 where
  pub symbols : t.symbols ≡ least_below (is_kind b SHT_SYMTAB) n
  pub indices : t.indices ≡ least_below (is_kind b SHT_SYMTAB_SHNDX) n

-- for each number below size, the least number below n that passes its test
pub record AreLeast (p : ℕ → ℕ → Bool) (size n : ℕ) (found : List (Option ℕ)) : Type 0 where
  pub size_is : length found ≡ size
  pub each : (s : ℕ) → s < size → get_or found s None ≡ least_below (p s) n

-- for each section, the section with its relocations that is among the first n
abbrev pub AreRelas : List ℕ → ℕ → List (Option ℕ) → Type 0
AreRelas b n relas = AreLeast (is_rela_of b) (section_count b) n relas

-- the symbol k stands for the section s
abbrev pub stands_for_section : List ℕ → ℕ → ℕ → Bool
stands_for_section b s k = stands_for s (symbol_entry b k)

-- for each section, the symbol that stands for it among the first n
abbrev pub AreSectionSymbols : List ℕ → ℕ → List (Option ℕ) → Type 0
AreSectionSymbols b n symbols = AreLeast (stands_for_section b) (section_count b) n symbols
