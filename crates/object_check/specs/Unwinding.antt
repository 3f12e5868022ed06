-- Rows by which the program of an object is unwound.
use Rattle.std.specs.Prelude.{List}
use Rattle.ot_base.specs.declared.row.PlacedRow.{PlacedRow}
use Rattle.ot_base.specs.NameLists.{NameLists}
use Rattle.flow_defs.specs.Coded.{Coded}
use Rattle.machine_defs.specs.Machine.{Bases, Machine}
use Rattle.machine_defs.specs.Run.{Run}
use Rattle.table_defs.specs.declared.range.Range.{Range}
use Rattle.table_defs.specs.Placed.{IsPlacedBy}
use Rattle.table_defs.specs.Walks.{WalksToFrames}
use Rattle.flow_defs.specs.Program.{program_of}

-- For every placement of the text sections and every state of every run of the stack machine on the object's program, walking
-- over the rows gives exactly the frames of the machine's shadow call stack.
abbrev pub RowsUnwind : Coded → NameLists → List PlacedRow → Type 0
RowsUnwind o lists rows =
    (bases : Bases) (ranges : List Range)
    → IsPlacedBy (program_of o lists) bases ranges
    → (m : Machine)
    → Run (program_of o lists) bases m
    → WalksToFrames (program_of o lists) rows bases ranges m
