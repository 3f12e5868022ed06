-- The rows' laws' premises can be met, by a program with a hint, a gate, a call, a tail call, a fixup, a table and a site.
use Rattle.std.specs.Prelude.{◌≡◌}
use Rattle.machine_defs.specs.IsProgram.{IsProgram, IsLaidOut}
use Rattle.machine_defs.specs.Kept.{AreKeptStates}
use Rattle.machine_defs.specs.Broken.{IsAccepted}
use Rattle.machine_defs.specs.Rows.{rows_of}
use Rattle.machine_defs.specs.Machine.{At}
use Rattle.table_defs.specs.Placed.{IsPlacedBy}
use Rattle.table_defs.specs.Walks.{WalksToFrames}
use Rattle.table_defs.specs.Enters.{EntersSites}
use Rattle.unwinding_law.specs.Worked.{worked, state_of, base, after_push}
use Rattle.table_law.specs.WorkedWalks.{ranges, rows}

-- The worked program meets every premise. Its rows are those of its states, and walking over them after g's push gives
-- the one frame.
pub record TellsWorked : Type 0 where
  pub program : IsProgram worked
  pub laid_out : IsLaidOut worked
  pub enters : EntersSites worked
  pub placed_by : IsPlacedBy worked base ranges
  pub accepted : IsAccepted worked
  pub states : AreKeptStates worked state_of
  pub rows : rows_of worked state_of ≡ rows
  pub unwinds : WalksToFrames worked (rows_of worked state_of) base ranges (At after_push)
