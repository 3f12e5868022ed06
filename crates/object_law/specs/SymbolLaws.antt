-- The code of an object is known by symbols.
use Rattle.std.specs.Prelude.{ℕ, Option, All}
use Rattle.ot_base.specs.NameLists.{NameLists}
use Rattle.state_defs.specs.declared.state.State.{State}
use Rattle.flow_defs.specs.Coded.{Coded}
use Rattle.machine_defs.specs.Kept.{AreKeptStates, Kept}
use Rattle.machine_defs.specs.Rows.{rows_of}
use Rattle.flow_defs.specs.Program.{program_of}
use Rattle.object_law.specs.Flows.{ObjectIsInOrder}
use Rattle.object_law.specs.Named.{IsNamed}

-- A kept point of an object in order runs in a section in which a symbol is defined.
abbrev pub KeptIsNamed : Type 0
KeptIsNamed =
    (o : Coded) (lists : NameLists) (q : ℕ) (s : State)
    → ObjectIsInOrder o → Kept (program_of o lists) q s → IsNamed o ((program_of o lists).address q).sec

-- The rows of its kept states lie in such sections.
abbrev pub RowsAreNamed : Type 0
RowsAreNamed =
    (o : Coded) (lists : NameLists) (states : ℕ → Option State)
    → ObjectIsInOrder o → AreKeptStates (program_of o lists) states
    → All (λ placed. IsNamed o placed.place.sec) (rows_of (program_of o lists) states)
