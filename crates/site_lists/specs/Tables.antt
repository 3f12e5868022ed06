-- An object with site lists, and with the section symbols that these need.
use Rattle.std.specs.Prelude.{◌≡◌, ℕ, ◌+◌, ◌<◌, ◌≤◌, length, All, List}
use Rattle.elf_objects.specs.Elf.{Elf}
use Rattle.elf_objects.specs.declared.TheConstants.{MAX_FILE_BYTES, MAX_SYMBOLS}
use Rattle.elf_objects.specs.Object.{IsObject}
use Rattle.elf_write.specs.AddedSymbols.{IsAdded}
use Rattle.elf_write.specs.SymbolObject.{object_with_symbols}
use Rattle.elf_write.specs.Room.{AreBytes}
use Rattle.orc_output.specs.declared.fault.TableFault.{TableFault}
use Rattle.orc_output.specs.declared.fault.TableFault.TheVariants.{TooManySymbols, NoMemory}
use Rattle.site_lists.specs.Listed.{Listed}
use Rattle.site_lists.specs.Sections.{HoldsSites}
use Rattle.site_lists.specs.Sites.{AreFew, AreSitesIn}
use Rattle.site_lists.specs.SiteOutput.{IsOther, site_sections, with_lists_object}
use Rattle.site_lists.specs.Needed.{needed_symbols}

-- Each place lies in the object, which has no site lists yet, room for six sections, and the size of a file that is read; and there
-- are no more places than text has bytes.
pub record CanHaveSites (o : Elf) (lists : Listed) : Type 0 where
  pub each : AreSitesIn o lists
  pub none : All IsOther o.sections
  pub few : length o.sections + 6 ≤ 262144
  pub short : length o.bytes ≤ MAX_FILE_BYTES
  pub few_places : AreFew lists

-- the object with the section symbols, and that with the site lists besides
abbrev pub with_symbols : Elf → Listed → Elf
with_symbols o lists = object_with_symbols o (needed_symbols o lists)

abbrev pub with_sites_object : Elf → Listed → Elf
with_sites_object o lists = with_lists_object (with_symbols o lists) lists

-- how many symbols it then has
abbrev pub symbols_needed : Elf → Listed → ℕ
symbols_needed o lists = length o.symbols + length (needed_symbols o lists)

-- The object is what its bytes say and may have site lists, with which it has few enough symbols.
pub record IsFit (o : Elf) (lists : Listed) : Type 0 where
  pub bytes : AreBytes o.bytes
  pub object : IsObject o.bytes o
  pub can : CanHaveSites o lists
  pub few : symbols_needed o lists ≤ MAX_SYMBOLS

-- These bytes are the object with the needed section symbols and exactly these site lists.
pub record HasSites (o : Elf) (lists : Listed) (file : List ℕ) : Type 0 where
  pub added : IsAdded o (needed_symbols o lists) (site_sections (with_symbols o lists) lists) file
  pub holds : HoldsSites (with_sites_object o lists) lists

-- too many symbols are needed: this is their number; want of memory says nothing of the object
abbrev pub IsSiteFault : Elf → Listed → TableFault → Type 0
IsSiteFault o lists (TooManySymbols count) = (MAX_SYMBOLS < symbols_needed o lists) × (count ≡ symbols_needed o lists)
IsSiteFault o lists NoMemory = Unit {0}
