-- When rows can be made of states.
use Rattle.std.specs.Prelude.{◌≡◌, ℕ, Option, Some, None}
use Rattle.state_defs.specs.declared.state.State.{State}
use Rattle.state_defs.specs.Row.{unfit_offset}

-- the offsets of each state's row fit the format
abbrev pub Fit : (ℕ → Option State) → Type 0
Fit states = (q : ℕ) (s : State) → states q ≡ Some s → unfit_offset s ≡ None
