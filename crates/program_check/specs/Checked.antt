-- Programs that are checked.
use Rattle.std.specs.Prelude.{ℕ, Option}
use Rattle.state_defs.specs.declared.state.State.{State}
use Rattle.machine_defs.specs.Program.{Program}
use Rattle.machine_defs.specs.IsProgram.{IsLaidOut}
use Rattle.machine_defs.specs.Kept.{AreKeptStates}
use Rattle.machine_defs.specs.Broken.{IsAccepted}
use Rattle.table_defs.specs.Order.{PlainPointsAscend}
use Rattle.program_graph.specs.declared.parts.GraphParts.{GraphParts}
use Rattle.program_graph.specs.Tells.{Tells}

-- The parts of a graph tell the program, its instructions lie in order, no rule is broken in it, and the states are those
-- that are kept.
pub record IsCheckedBy (p : Program) (parts : GraphParts) (states : ℕ → Option State) : Type 0 where
  pub tells : Tells p parts
  pub laid : IsLaidOut p
  pub ascending : PlainPointsAscend p
  pub kept : AreKeptStates p states
  pub accepted : IsAccepted p
