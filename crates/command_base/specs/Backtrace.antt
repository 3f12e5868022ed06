-- How the checker came to a warning: the function that holds its place, the state that is kept there, and the ways that
-- brought it.
use Rattle.std.specs.Prelude.{◌≡◌, ◌≢◌, ℕ, ◌-◌, ◌&&◌, Bool, List, [], ◌∷◌, ◌++◌, Option, Some, None, MatchOption, is_some, option_map, option_and_then}
use Rattle.std.specs.Option.{option_or}
use Rattle.ot_base.specs.declared.place.Place.{Place}
use Rattle.ot_base.specs.declared.warning.Warning.{Warning}
use Rattle.ot_base.specs.declared.rules.TheConstants.{STATE_MISMATCH}
use Rattle.ot_base.specs.Places.{same_place}
use Rattle.elf_objects.specs.Elf.{Elf}
use Rattle.elf_objects.specs.Below.{least_below}
use Rattle.elf_objects.specs.Contents.{symbol_at}
use Rattle.symbols_relocs.specs.Functions.{function_at}
use Rattle.state_defs.specs.declared.state.State.{State}
use Rattle.machine_defs.specs.Program.{Program}
use Rattle.state_ways.specs.declared.clashes.Clash.{Clash}
use Rattle.state_ways.specs.declared.steps.WayKind.{WayKind}
use Rattle.state_ways.specs.declared.steps.WayStep.{WayStep}
use Rattle.state_ways.specs.Clashes.{IsClash}
use Rattle.state_ways.specs.Ways.{Way, along, step, turns}
use Rattle.command_base.specs.declared.backtrace_holder.Holder.{Holder}

-- whether the bytes of a point stand at a place
abbrev pub stands_at : Program → Place → ℕ → Bool
stands_at p place q = same_place (p.place q) place

-- the first point there, in the order of their numbers
abbrev pub first_point : Program → Place → Option ℕ
first_point p place = least_below (stands_at p place) p.count

-- the first point there that keeps a state
abbrev pub first_kept : Program → (ℕ → Option State) → Place → Option ℕ
first_kept p states place = least_below (λ q. stands_at p place q && is_some (states q)) p.count

-- where a point runs; the place itself where there is none
abbrev pub address_by : Program → Place → Option ℕ → Place
address_by p place (Some q) = p.address q
address_by p place None = place

-- where what stands at a place runs: the first point there that keeps a state, or else the first one
abbrev pub runs_at : Program → (ℕ → Option State) → Place → Place
runs_at p states place = address_by p place (option_or (first_kept p states place) (first_point p place))

-- a place in the function that holds it: the function, by its lowest symbol, and the bytes from its start
abbrev pub holder_of : Elf → Place → Option Holder
holder_of o place = option_map (λ sym. record { sym = sym; off = place.off - (symbol_at o sym).value }) (function_at o place)

-- these are the turns of one way to the point, in order: the places at which control didn't just go on
pub record AreTurnsTo (p : Program) (q : ℕ) (told : List WayStep) : Type 0 where
  pub level : ℕ
  pub steps : List WayStep
  pub way : Way p level q steps
  pub turns : told ≡ turns steps

-- Of rule 4 another way is told: the turns of one to a point that brings to the warning's place another state than the one that
-- is kept there, and then the edge that brings it, whatever its kind. Of no other rule is one.
pub data IsOtherWay (p : Program) (w : Warning) : List WayStep → Type 0 where
  mismatch :
      (clash : Clash) (kind : WayKind) (before : List WayStep)
      → IsClash p w clash
      → along clash.edge.kind ≡ Some kind
      → AreTurnsTo p clash.from before
      → IsOtherWay p w (before ++ step clash.edge.to kind ∷ [])
  alone : w.rule ≢ STATE_MISMATCH → IsOtherWay p w []

-- what is told of a warning beside its line
pub record Told : Type 0 where
  pub holder : Option Holder
  pub state : Option State
  pub way : List WayStep
  pub other : List WayStep

-- This is told of a warning of an object's program: the function that holds the place where the first point at the warning's place that
-- keeps a state runs, or else the first one; of the first point there that keeps a state, this state and the turns of one way to it; and
-- of rule 4 another way.
pub record IsBacktrace (o : Elf) (p : Program) (states : ℕ → Option State) (w : Warning) (told : Told) : Type 0 where
  pub holder : told.holder ≡ holder_of o (runs_at p states w.place)
  pub state : told.state ≡ option_and_then states (first_kept p states w.place)
  pub way : MatchOption (first_kept p states w.place) (told.way ≡ []) (λ q. AreTurnsTo p q told.way)
  pub other : IsOtherWay p w told.other
