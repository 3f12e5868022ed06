-- What is found of each warning before its backtrace is told.
use Rattle.std.specs.Prelude.{◌≡◌, ◌≢◌, ℕ, List, [], ◌∷◌, ◌++◌, Option, Some, None, Contains, option_and_then, slice_index_or}
use Rattle.std.specs.List.{flat_map}
use Rattle.std.specs.Option.{option_or}
use Rattle.ot_base.specs.declared.rules.TheConstants.{STATE_MISMATCH}
use Rattle.ot_base.specs.declared.warning.Warning.{Warning}
use Rattle.elf_objects.specs.Elf.{Elf}
use Rattle.state_defs.specs.declared.state.State.{State}
use Rattle.machine_defs.specs.Program.{Program}
use Rattle.machine_defs.specs.IsProgram.{HintsStandAtPoints, IsProgram}
use Rattle.machine_defs.specs.Kept.{AreKeptStates}
use Rattle.machine_defs.specs.Broken.{Warns}
use Rattle.program_graph.specs.declared.parts.GraphParts.{GraphParts}
use Rattle.program_graph.specs.Tells.{Tells}
use Rattle.state_ways.specs.declared.clashes.Clash.{Clash}
use Rattle.state_ways.specs.declared.steps.WayKind.{WayKind}
use Rattle.state_ways.specs.declared.steps.WayStep.{WayStep}
use Rattle.state_ways.specs.Clashes.{IsClash}
use Rattle.state_ways.specs.Ways.{along, step, turns_at}
use Rattle.command_base.specs.Warnings.{line_of}
use Rattle.command_base.specs.declared.backtrace_cases.Case.{Case}
use Rattle.command_base.specs.declared.backtrace_spots.Spot.{Spot}
use Rattle.command_base.specs.Backtrace.{Told, address_by, first_kept, first_point, holder_of}
use Rattle.command_base.specs.BacktraceText.{backtrace_text}

-- The graph tells the program, these states are kept in it, and what the warnings say of rule 4 is so.
pub record IsWarnedOf (p : Program) (parts : GraphParts) (states : ℕ → Option State) (warnings : List Warning) : Type 0 where
  pub tells : Tells p parts
  pub is_program : IsProgram p
  pub hints : HintsStandAtPoints p
  pub kept : AreKeptStates p states
  pub mismatches : (w : Warning) → Contains warnings w → w.rule ≡ STATE_MISMATCH → Warns p w.place w.rule w.a w.b

-- the edge that is found of a warning is one that brings the other state
pub data IsCaseClash (p : Program) (w : Warning) : Option Clash → Type 0 where
  found : (clash : Clash) → IsClash p w clash → IsCaseClash p w (Some clash)
  none : w.rule ≢ STATE_MISMATCH → IsCaseClash p w None

-- this is found of a warning
pub record IsCase (p : Program) (states : ℕ → Option State) (c : Case) : Type 0 where
  pub first : c.first ≡ first_point p c.warning.place
  pub kept : c.kept ≡ first_kept p states c.warning.place
  pub clash : IsCaseClash p c.warning c.clash

-- a warning, the first points at its place, and what is noted of it are put together
pub record IsMade (w : Warning) (spot : Spot) (noted : Option Clash) (c : Case) : Type 0 where
  pub warning : c.warning ≡ w
  pub first : c.first ≡ spot.first
  pub kept : c.kept ≡ spot.kept
  pub clash : c.clash ≡ noted

-- the turns to a point, if there is one
abbrev pub turns_to : List (List WayStep) → Option ℕ → List WayStep
turns_to ways (Some q) = turns_at ways q
turns_to ways None = []

-- a step to a point, where control comes to it so
abbrev pub step_along : ℕ → Option WayKind → List WayStep
step_along q (Some kind) = step q kind ∷ []
step_along q None = []

-- the turns to where an edge begins, and the edge
abbrev pub turns_along : List (List WayStep) → Option Clash → List WayStep
turns_along ways (Some clash) = turns_at ways clash.from ++ step_along clash.edge.to (along clash.edge.kind)
turns_along ways None = []

-- what is told of it, by these ways
abbrev pub told_by : Elf → Program → (ℕ → Option State) → List (List WayStep) → Case → Told
told_by o p states ways c = record {
  holder = holder_of o (address_by p c.warning.place (option_or c.kept c.first));
  state = option_and_then states c.kept;
  way = turns_to ways c.kept;
  other = turns_along ways c.clash;
}

-- its line, and what is told behind that
abbrev pub case_text : Elf → List ℕ → Program → (ℕ → Option State) → List (List WayStep) → Case → List ℕ
case_text o input p states ways c = line_of o c.warning ++ backtrace_text o input p c.warning.rule (told_by o p states ways c)

abbrev pub cases_text : Elf → List ℕ → Program → (ℕ → Option State) → List (List WayStep) → List Case → List ℕ
cases_text o input p states ways cases = flat_map (case_text o input p states ways) cases
