-- A pool as contracts see it.
use Rattle.std.specs.Prelude.{◌≡◌, ℕ, ◌-◌, List, [], ◌∷◌, ◌++◌, Some, slice_get}
use Rattle.state_defs.specs.declared.state.State.{State}

-- the states that have numbers, in the order of their numbers from 0 on, and how many more may get one
pub record States : Type 0 where
  pub states : List State
  pub spare : ℕ

-- no state has two numbers
abbrev pub AreDifferent : List State → Type 0
AreDifferent states = (i j : ℕ) (s : State) → slice_get states i ≡ Some s → slice_get states j ≡ Some s → i ≡ j

-- a new state goes last, and takes one of the spare numbers
abbrev pub with_new : States → State → States
with_new pool s = record { states = pool.states ++ s ∷ []; spare = pool.spare - 1 }
