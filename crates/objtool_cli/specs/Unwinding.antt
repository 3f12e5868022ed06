-- The unwinding theorem: wherever the code of an object is placed, and whatever it does, a walk over the tables in the bytes
-- that are written for it finds exactly the callers that it has.
use Rattle.std.specs.Prelude.{◌≡◌, ⊤, ℕ, List, Option, Some, None}
use Rattle.std.specs.FinMap.{get}
use Rattle.ot_base.specs.NameLists.{NameLists}
use Rattle.ot_base.specs.declared.row.PlacedRow.{PlacedRow}
use Rattle.ot_files.specs.Content.{Content}
use Rattle.machine_defs.specs.Machine.{Bases, Machine}
use Rattle.machine_defs.specs.Run.{Run}
use Rattle.table_defs.specs.declared.range.Range.{Range}
use Rattle.table_defs.specs.Placement.{IsPlacement}
use Rattle.elf_objects.specs.Elf.{Elf}
use Rattle.elf_objects.specs.Object.{IsObject}
use Rattle.elf_write.specs.AddedSymbols.{IsAdded}
use Rattle.orc_bytes.specs.Sections.{HoldsOrc}
use Rattle.orc_output.specs.OrcOutput.{orc_sections}
use Rattle.table_defs.specs.Placed.{BeginAt}
use Rattle.table_defs.specs.Walks.{WalksToFrames}
use Rattle.orc_output.specs.Needed.{needed_symbols}
use Rattle.orc_output.specs.Tables.{with_symbols, with_tables_object}
use Rattle.x86_map.specs.declared.map.Map.{Map}
use Rattle.flow_defs.specs.Coded.{Coded, coded_by}
use Rattle.flow_defs.specs.Program.{program_of}
use Rattle.command_base.specs.TextSections.{texts_of}
use Rattle.command_base.specs.Names.{HasNames}

-- The bytes that are written for an object are this object with exactly the section symbols inserted that some rows need, and
-- then the ORC sections of these rows added, and its ORC sections hold exactly this list of rows. And for every placement of
-- the text sections and every state of every run of the object's program, walking over these rows gives exactly the frames.
pub record UnwindsBy (o : Coded) (lists : NameLists) (written : List ℕ) : Type 0 where
  pub rows : List PlacedRow
  pub added : IsAdded o.elf (needed_symbols o.elf rows) (orc_sections (with_symbols o.elf rows) rows) written
  pub reads_back : IsObject written (with_tables_object o.elf rows)
  pub holds : HoldsOrc (with_tables_object o.elf rows) rows
  pub only : (others : List PlacedRow) → HoldsOrc (with_tables_object o.elf rows) others → others ≡ rows
  pub walks :
      (bases : Bases) (ranges : List Range)
      → IsPlacement (texts_of o.elf) ranges
      → BeginAt bases ranges
      → (m : Machine)
      → Run (program_of o lists) bases m
      → WalksToFrames (program_of o lists) rows bases ranges m

-- the same for the bytes that were read
pub record ReadUnwinds (map : Map) (read : List ℕ) (lists : NameLists) (written : List ℕ) : Type 0 where
  pub object : Elf
  pub is_object : IsObject read object
  pub unwinds : UnwindsBy (coded_by map object) lists written

-- The bytes that OUT holds after a command unwind the object whose bytes IN held before it, under the lists of names of the
-- names file, or the built-in ones where none is given.
pub record LeavesTables (map : Map) (input output : List ℕ) (names : Option (List ℕ)) (before after : Content) : Type 0 where
  pub read : List ℕ
  pub held : get before input ≡ Some read
  pub lists : NameLists
  pub named : HasNames (Some before) names lists
  pub written : List ℕ
  pub left : get after output ≡ Some written
  pub unwinds : ReadUnwinds map read lists written

-- the same where the files tell their content
abbrev pub OutUnwinds : Map → List ℕ → List ℕ → Option (List ℕ) → Option Content → Option Content → Type 0
OutUnwinds map input output names (Some before) (Some after) = LeavesTables map input output names before after
OutUnwinds map input output names (Some before) None = ⊥
OutUnwinds map input output names None after = ⊤
