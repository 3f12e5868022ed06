-- The verdict of a check.
use Rattle.std.specs.Prelude.{◌≡◌, ℕ, ◌<◌, List, Option, AllPairs, ℤ, length}
use Rattle.ot_base.specs.declared.options.Options.{Options}
use Rattle.ot_base.specs.declared.place.Place.{Place}
use Rattle.ot_base.specs.declared.warning.Warning.{Warning}
use Rattle.state_defs.specs.declared.state.State.{State}
use Rattle.machine_defs.specs.Program.{Program}
use Rattle.machine_defs.specs.Broken.{IsAccepted, IsBroken}
use Rattle.program_graph.specs.declared.parts.GraphParts.{GraphParts}
use Rattle.stack_rules.specs.Before.{ComesBefore}
use Rattle.program_check.specs.declared.verdict.StackVerdict.{StackVerdict}
use Rattle.program_check.specs.declared.verdict.StackVerdict.TheVariants.{Accepted, Broken}
use Rattle.program_check.specs.Asked.{AreBroken}

-- nothing is broken, and what is checked is what was given
pub record IsAcceptance (p : Program) (options : Options) (parts checked : GraphParts) (states checked_states : List (Option State)) : Type 0 where
  pub graph : checked ≡ parts
  pub kept : checked_states ≡ states
  pub accepted : IsAccepted p
  pub unbroken : (place : Place) (rule : ℕ) (a b : ℤ) → IsBroken p options place rule a b → ⊥

-- something is broken: the graph is the one that was given, and the warnings are those of the check, each once and in order
pub record IsRefusal (p : Program) (options : Options) (parts refused : GraphParts) (warnings : List Warning) : Type 0 where
  pub graph : refused ≡ parts
  pub some : 0 < length warnings
  pub ascending : AllPairs ComesBefore warnings
  pub broken : AreBroken p options warnings

abbrev pub IsStackVerdict : Program → Options → GraphParts → List (Option State) → StackVerdict → Type 0
IsStackVerdict p options parts states (Accepted checked) = IsAcceptance p options parts checked.graph.parts states checked.kept
IsStackVerdict p options parts states (Broken graph warnings) = IsRefusal p options parts graph.parts warnings.items
