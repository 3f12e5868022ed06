-- The least of some states.
use Rattle.std.specs.Prelude.{◌≡◌, false, Option, Some, None}
use Rattle.state_defs.specs.declared.state.State.{State}
use Rattle.state_defs.specs.Order.{comes_before, lesser}

-- o is the least of the states that have the property, and None where none has it
abbrev pub IsLeast : (State → Type 0) → Option State → Type 0
IsLeast P None = (t : State) → P t → ⊥
IsLeast P (Some m) = P m × ((t : State) → P t → comes_before t m ≡ false)

-- the lesser of the least so far and one more
abbrev pub lesser_of : Option State → State → State
lesser_of None s = s
lesser_of (Some best) s = lesser best s
