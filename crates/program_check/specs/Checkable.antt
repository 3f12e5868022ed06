-- Programs that can be checked, and what is known of one that was accepted.
use Rattle.std.specs.Prelude.{◌≡◌, List, Option, length}
use Rattle.state_defs.specs.declared.state.State.{State}
use Rattle.machine_defs.specs.Program.{Program}
use Rattle.machine_defs.specs.IsProgram.{IsProgram, IsLaidOut}
use Rattle.machine_defs.specs.Kept.{AreKeptStates}
use Rattle.machine_defs.specs.Broken.{IsAccepted}
use Rattle.table_defs.specs.Order.{PlainPointsAscend}
use Rattle.program_graph.specs.declared.parts.GraphParts.{GraphParts}
use Rattle.program_graph.specs.Tells.{Tells}
use Rattle.kept_states.specs.LevelStates.{at}

-- The graph tells the program, which is one as the laws ask and whose instructions lie in order, and the states are those
-- that are kept, by point.
pub record IsPrepared (p : Program) (parts : GraphParts) (states : List (Option State)) : Type 0 where
  pub tells : Tells p parts
  pub is_program : IsProgram p
  pub laid : IsLaidOut p
  pub ascending : PlainPointsAscend p
  pub kept : AreKeptStates p (at states)
  pub points : length states ≡ p.count

-- there is a program in which no rule is broken, with this graph and these states
abbrev pub AreOfSomeAccepted : GraphParts → List (Option State) → Type 0
AreOfSomeAccepted parts states = ∥ ((p : Program) × IsPrepared p parts states × IsAccepted p) ∥₁
