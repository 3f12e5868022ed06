-- A region as contracts see it.
use Rattle.std.specs.Prelude.{ℕ, List}
use Rattle.state_defs.specs.declared.state.State.{State}

-- the states by place from 0 on, and how many there is room for
pub record RegionStates : Type 0 where
  pub list : List State
  pub room : ℕ
