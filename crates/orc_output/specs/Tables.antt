-- An object with the ORC sections of some rows, and with the section symbols that these need.
use Rattle.std.specs.Prelude.{◌≡◌, ℕ, ◌+◌, ◌<◌, ◌≤◌, true, List, Some, length, slice_get, All}
use Rattle.ot_base.specs.declared.row.PlacedRow.{PlacedRow}
use Rattle.elf_objects.specs.Contents.{is_text, symbol_at}
use Rattle.elf_objects.specs.Elf.{Elf, SectionEntry}
use Rattle.elf_objects.specs.declared.TheConstants.{MAX_FILE_BYTES, MAX_SYMBOLS}
use Rattle.elf_objects.specs.declared.symbol.Home.TheVariants as home
use Rattle.elf_objects.specs.Object.{IsObject}
use Rattle.elf_write.specs.AddedSymbols.{IsAdded}
use Rattle.elf_write.specs.SymbolObject.{object_with_symbols}
use Rattle.elf_write.specs.Room.{AreBytes}
use Rattle.orc_bytes.specs.RowBytes.{IsRow}
use Rattle.orc_bytes.specs.Sections.{HoldsOrc}
use Rattle.orc_output.specs.OrcOutput.{IsOther, orc_sections, with_orc_object}
use Rattle.orc_output.specs.Needed.{needed_symbols}
use Rattle.orc_output.specs.declared.fault.TableFault.{TableFault}
use Rattle.orc_output.specs.declared.fault.TableFault.TheVariants.{TooManySymbols, NoMemory}

-- a symbol of the object is defined in a section
pub record IsNamed (o : Elf) (sec : ℕ) : Type 0 where
  pub symbol : ℕ
  pub known : symbol < length o.symbols
  pub here : (symbol_at o symbol).home ≡ home.Section sec

-- The row lies in a text section of the object in which a symbol is defined, at an offset up to the section's size, and six
-- bytes hold it.
pub record IsRowIn (o : Elf) (placed : PlacedRow) : Type 0 where
  pub section : SectionEntry
  pub at : slice_get o.sections placed.place.sec ≡ Some section
  pub text : is_text section ≡ true
  pub inside : placed.place.off ≤ section.size
  pub named : IsNamed o placed.place.sec
  pub row : IsRow placed.row

-- Each row lies in the object, which has no ORC sections yet, room for three sections, and the size of a file that is read;
-- and there are at most so many rows as such a file has places.
pub record CanHaveTables (o : Elf) (rows : List PlacedRow) : Type 0 where
  pub each : All (IsRowIn o) rows
  pub none : All IsOther o.sections
  pub few : length o.sections + 3 ≤ 262144
  pub short : length o.bytes ≤ MAX_FILE_BYTES
  pub few_rows : length rows ≤ 67108865

-- the object with the section symbols, and that with the ORC sections besides
abbrev pub with_symbols : Elf → List PlacedRow → Elf
with_symbols o rows = object_with_symbols o (needed_symbols o rows)

abbrev pub with_tables_object : Elf → List PlacedRow → Elf
with_tables_object o rows = with_orc_object (with_symbols o rows) rows

-- how many symbols it then has
abbrev pub symbols_needed : Elf → List PlacedRow → ℕ
symbols_needed o rows = length o.symbols + length (needed_symbols o rows)

-- The object is what its bytes say and may have tables, with which it has few enough symbols.
pub record IsFit (o : Elf) (rows : List PlacedRow) : Type 0 where
  pub bytes : AreBytes o.bytes
  pub object : IsObject o.bytes o
  pub can : CanHaveTables o rows
  pub few : symbols_needed o rows ≤ MAX_SYMBOLS

-- These bytes are the object with the needed section symbols and the ORC sections of exactly these rows.
pub record HasTables (o : Elf) (rows : List PlacedRow) (file : List ℕ) : Type 0 where
  pub added : IsAdded o (needed_symbols o rows) (orc_sections (with_symbols o rows) rows) file
  pub holds : HoldsOrc (with_tables_object o rows) rows

-- too many symbols are needed: this is their number; want of memory says nothing of the object
abbrev pub IsTableFault : Elf → List PlacedRow → TableFault → Type 0
IsTableFault o rows (TooManySymbols count) = (MAX_SYMBOLS < symbols_needed o rows) × (count ≡ symbols_needed o rows)
IsTableFault o rows NoMemory = Unit {0}
