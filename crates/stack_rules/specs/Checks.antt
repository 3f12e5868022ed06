-- What rules are checked over.
use Rattle.std.specs.Prelude.{◌≡◌, List, Option, length}
use Rattle.state_defs.specs.declared.state.State.{State}
use Rattle.machine_defs.specs.Program.{Program}
use Rattle.machine_defs.specs.IsProgram.{IsProgram, HintsStandAtPoints}
use Rattle.machine_defs.specs.Kept.{AreKeptStates}
use Rattle.program_graph.specs.declared.parts.GraphParts.{GraphParts}
use Rattle.program_graph.specs.Tells.{Tells}
use Rattle.kept_states.specs.LevelStates.{at}

-- the graph tells the program, which is one as the laws ask, and the states are those that are kept, by point
pub record Checks (p : Program) (parts : GraphParts) (states : List (Option State)) : Type 0 where
  pub tells : Tells p parts
  pub is_program : IsProgram p
  pub hints : HintsStandAtPoints p
  pub kept : AreKeptStates p (at states)
  pub points : length states ≡ p.count
