-- The laws by which a table unwinds a program.
use Rattle.std.specs.Prelude.{ℕ, List, Option}
use Rattle.ot_base.specs.declared.row.PlacedRow.{PlacedRow}
use Rattle.state_defs.specs.declared.state.State.{State}
use Rattle.machine_defs.specs.Program.{Program}
use Rattle.machine_defs.specs.Machine.{Bases, Machine, IsPlacement}
use Rattle.machine_defs.specs.Run.{Run}
use Rattle.machine_defs.specs.Kept.{AreKeptStates}
use Rattle.machine_defs.specs.Broken.{IsAccepted}
use Rattle.machine_defs.specs.Rows.{rows_of}
use Rattle.machine_defs.specs.IsProgram.{IsProgram, IsInText, IsLaidOut}
use Rattle.table_defs.specs.declared.range.Range.{Range}
use Rattle.table_defs.specs.Placed.{IsPlacedBy}
use Rattle.table_defs.specs.Tells.{TellsStates}
use Rattle.table_defs.specs.Walks.{WalksToFrames}
use Rattle.table_defs.specs.Enters.{EntersSites}

-- a table's placement of a program is one of the machine's
abbrev pub RangesArePlacement : Type 0
RangesArePlacement = (p : Program) (bases : Bases) (ranges : List Range) → IsPlacedBy p bases ranges → IsPlacement p bases

-- The walk law: wherever an accepted program is placed, a table that tells its kept states walks to exactly the
-- frames, in every state of every run.
abbrev pub WalkLaw : Type 0
WalkLaw =
    (p : Program) (bases : Bases) (rows : List PlacedRow) (ranges : List Range)
    → IsProgram p → IsInText p → IsPlacedBy p bases ranges → IsAccepted p → TellsStates p bases rows ranges
    → (m : Machine) → Run p bases m → WalksToFrames p rows bases ranges m

-- The rows of an accepted program tell its kept states.
abbrev pub RowsTell : Type 0
RowsTell =
    (p : Program) (bases : Bases) (ranges : List Range) (states : ℕ → Option State)
    → IsProgram p → IsLaidOut p → EntersSites p → IsPlacedBy p bases ranges → IsAccepted p → AreKeptStates p states
    → TellsStates p bases (rows_of p states) ranges

-- So the walk over the rows of an accepted program gives exactly the frames.
abbrev pub RowsUnwind : Type 0
RowsUnwind =
    (p : Program) (bases : Bases) (ranges : List Range) (states : ℕ → Option State)
    → IsProgram p → IsLaidOut p → EntersSites p → IsPlacedBy p bases ranges → IsAccepted p → AreKeptStates p states
    → (m : Machine) → Run p bases m → WalksToFrames p (rows_of p states) bases ranges m
