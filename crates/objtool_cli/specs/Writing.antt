-- How an object is written to OUT with the tables of its rows.
use Rattle.std.specs.Prelude.{◌≡◌, ℕ, ◌<◌, ◌≤◌, List, Option}
use Rattle.ot_base.specs.declared.row.PlacedRow.{PlacedRow}
use Rattle.ot_files.specs.Content.{Content, ChangesAtMost, writing}
use Rattle.elf_objects.specs.Elf.{Elf}
use Rattle.elf_objects.specs.declared.TheConstants.{MAX_SYMBOLS}
use Rattle.elf_objects.specs.declared.fault.Counted.TheVariants.{Symbols}
use Rattle.orc_output.specs.Tables.{HasTables, symbols_needed}
use Rattle.command_base.specs.declared.refusal.Refusal.TheVariants.{TooMany}
use Rattle.command_base.specs.declared.stop.CommandStop.{CommandStop}
use Rattle.command_base.specs.declared.stop.CommandStop.TheVariants.{Refused, NoMemory}
use Rattle.command_base.specs.Outside.{Outside}
use Rattle.command_base.specs.Writing.{StopsAtWrite}

-- the tables need few enough symbols, and these bytes are the object with them
pub record IsTable (o : Elf) (rows : List PlacedRow) (table : List ℕ) : Type 0 where
  pub few : symbols_needed o rows ≤ MAX_SYMBOLS
  pub tables : HasTables o rows table

-- the stop tells that the tables need too many symbols, and how many, or want of memory
abbrev pub IsCrowded : Elf → List PlacedRow → CommandStop → Type 0
IsCrowded o rows (Refused (TooMany Symbols count)) = (MAX_SYMBOLS < symbols_needed o rows) × (count ≡ symbols_needed o rows)
IsCrowded o rows NoMemory = Unit {0}
IsCrowded o rows _ = ⊥

-- the object was written to OUT with the tables, and every other name holds what it held
pub record WritesTable (o : Elf) (rows : List PlacedRow) (output : List ℕ) (before after : Option Content) : Type 0 where
  pub table : List ℕ
  pub is : IsTable o rows table
  pub written : after ≡ writing before output table

-- A command stops so that can't: too many symbols are needed, and no file has changed; or writing OUT didn't come to its
-- end, and no other name has changed.
pub data StopsAtTable (o : Elf) (rows : List PlacedRow) (output : List ℕ) (before after : Outside) : CommandStop → Type 0 where
  crowded : {stop : CommandStop} → IsCrowded o rows stop → after.content ≡ before.content → StopsAtTable o rows output before after stop
  cut_off :
      {stop : CommandStop} (table : List ℕ)
      → IsTable o rows table
      → StopsAtWrite output before after stop
      → ChangesAtMost output before.content after.content
      → StopsAtTable o rows output before after stop
