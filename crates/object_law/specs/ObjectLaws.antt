-- What holds of the program of every object.
use Rattle.std.specs.Prelude.{◌≡◌, ℕ, List, [], Option}
use Rattle.ot_base.specs.NameLists.{NameLists}
use Rattle.state_defs.specs.declared.state.State.{State}
use Rattle.flow_defs.specs.Coded.{Coded}
use Rattle.machine_defs.specs.Machine.{Bases, Machine}
use Rattle.machine_defs.specs.Run.{Run}
use Rattle.machine_defs.specs.Broken.{IsAccepted}
use Rattle.machine_defs.specs.Kept.{AreKeptStates}
use Rattle.machine_defs.specs.Rows.{rows_of}
use Rattle.table_defs.specs.declared.range.Range.{Range}
use Rattle.table_defs.specs.Enters.{EntersSites}
use Rattle.table_defs.specs.Order.{PlainPointsAscend}
use Rattle.table_defs.specs.Placed.{IsPlacedBy}
use Rattle.table_defs.specs.Walks.{WalksToFrames}
use Rattle.flow_defs.specs.Faults.{flow_faults}
use Rattle.flow_defs.specs.Program.{program_of}
use Rattle.object_law.specs.Flows.{ObjectIsInOrder}

-- Control comes into the sites of every object in order at their starts, or from within.
abbrev pub ProgramEntersSites : Type 0
ProgramEntersSites = (o : Coded) (lists : NameLists) → ObjectIsInOrder o → flow_faults o ≡ [] → EntersSites (program_of o lists)

-- The plain points of every object are numbered in the order of their places.
abbrev pub PointsAscend : Type 0
PointsAscend = (o : Coded) (lists : NameLists) → PlainPointsAscend (program_of o lists)

-- Wherever an object in order is placed whose program breaks no rule, the walk over the rows of its kept states gives
-- exactly the frames, in every state of every run.
abbrev pub ObjectUnwinds : Type 0
ObjectUnwinds =
    (o : Coded) (lists : NameLists) (states : ℕ → Option State) (bases : Bases) (ranges : List Range)
    → ObjectIsInOrder o → flow_faults o ≡ [] → IsAccepted (program_of o lists) → AreKeptStates (program_of o lists) states
    → IsPlacedBy (program_of o lists) bases ranges → (m : Machine) → Run (program_of o lists) bases m
    → WalksToFrames (program_of o lists) (rows_of (program_of o lists) states) bases ranges m
