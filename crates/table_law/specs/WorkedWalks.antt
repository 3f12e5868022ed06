-- The walk law's premises can be met, and a table that tells other states leads a walk astray.
use Rattle.std.specs.Prelude.{List, [], ◌∷◌}
use Rattle.ot_base.specs.declared.row.PlacedRow.{PlacedRow}
use Rattle.ot_base.specs.Rows.{zero_row}
use Rattle.state_defs.specs.State.{initial}
use Rattle.state_defs.specs.Row.{row_of}
use Rattle.machine_defs.specs.IsProgram.{IsProgram, IsInText}
use Rattle.machine_defs.specs.Broken.{IsAccepted}
use Rattle.machine_defs.specs.Rows.{placed}
use Rattle.machine_defs.specs.Machine.{At}
use Rattle.table_defs.specs.declared.range.Range.{Range}
use Rattle.table_defs.specs.Placed.{IsPlacedBy}
use Rattle.table_defs.specs.Tells.{TellsStates}
use Rattle.table_defs.specs.Walks.{WalksToFrames}
use Rattle.unwinding_law.specs.Worked.{place_at, worked, pushed, interrupted, base, after_push}

-- where the sections of the worked program lie
abbrev pub ranges : List Range
ranges = record { sec = 1; base = 0x1000; size = 21 } ∷ record { sec = 2; base = 0x2000; size = 1 } ∷ []

-- the rows of its states: all of f is as at its entry; behind g's push rbp is saved; an interrupt's words at the gate
abbrev pub rows : List PlacedRow
rows = placed (place_at 1 0) (row_of initial) ∷ placed (place_at 1 17) (row_of pushed) ∷ placed (place_at 1 18) (row_of initial) ∷ placed (place_at 1 19) (row_of interrupted) ∷ placed (place_at 1 21) zero_row ∷ []

-- It meets every premise, so the walk gives exactly the frames in each state of its runs, such as the one
-- after g's push.
pub record WalksWorked : Type 0 where
  pub program : IsProgram worked
  pub in_text : IsInText worked
  pub placed : IsPlacedBy worked base ranges
  pub accepted : IsAccepted worked
  pub tells : TellsStates worked base rows ranges
  pub walks : WalksToFrames worked rows base ranges (At after_push)

-- a table in which each instruction of g but the first has the row of the one before it
abbrev pub stray_rows : List PlacedRow
stray_rows = placed (place_at 1 0) (row_of initial) ∷ placed (place_at 1 18) (row_of pushed) ∷ placed (place_at 1 19) (row_of initial) ∷ placed (place_at 1 21) zero_row ∷ []

-- the walk over it after the push doesn't give the frames
abbrev pub StraysWorked : Type 0
StraysWorked = WalksToFrames worked stray_rows base ranges (At after_push) → ⊥
