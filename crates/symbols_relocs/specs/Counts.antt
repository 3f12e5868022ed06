-- How many functions start at a place or before it.
use Rattle.std.specs.Prelude.{ℕ, ◌-◌, ◌==◌, ◌||◌, not, nat_le, Bool, List, length}
use Rattle.ot_base.specs.declared.place.Place.{Place}
use Rattle.ot_base.specs.Places.{is_before}
use Rattle.symbols_relocs.specs.declared.function.Function.{Function}
use Rattle.symbols_relocs.specs.Lists.{function}

-- the function with an index starts behind a place, or there is none
abbrev pub is_behind : List Function → ℕ → Place → Bool
is_behind fs index place = nat_le (length fs) index || is_before place (function fs index).start

-- the last of so many starts at a place or before it, or there is none
abbrev pub is_upto : List Function → ℕ → Place → Bool
is_upto fs count place = count == 0 || not (is_before place (function fs (count - 1)).start)
