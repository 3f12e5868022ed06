-- How many different states are kept.
use Rattle.std.specs.Prelude.{◌≡◌, ℕ, ◌<◌, ◌↔◌, List, Option, Some, Contains, length}
use Rattle.state_defs.specs.declared.state.State.{State}
use Rattle.state_pool.specs.States.{AreDifferent}
use Rattle.kept_states.specs.LevelStates.{at}

-- These are the states that the first n points keep, each of them once.
pub record AreNumbered (kept : List (Option State)) (n : ℕ) (states : List State) : Type 0 where
  pub different : AreDifferent states
  pub all : (q : ℕ) (s : State) → q < n → at kept q ≡ Some s → Contains states s
  pub only : (s : State) → Contains states s → (q : ℕ) × (at kept q ≡ Some s)

-- so many different states are kept: there is a list of them, with each of them once
abbrev pub IsStateCount : List (Option State) → ℕ → Type 0
IsStateCount kept n = (states : List State) × AreDifferent states × ((s : State) → Contains states s ↔ ((q : ℕ) × (at kept q ≡ Some s))) × (n ≡ length states)
