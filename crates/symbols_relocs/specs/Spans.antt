-- The function of places in a row.
use Rattle.std.specs.Prelude.{◌≡◌, ◌<◌, ℕ, true, false, List, Option, Some, None, length}
use Rattle.ot_base.specs.declared.place.Place.{Place}
use Rattle.symbols_relocs.specs.declared.function.Function.{Function}
use Rattle.symbols_relocs.specs.Lists.{function, in_function}

-- the place with an offset in a section
abbrev pub place_at : ℕ → ℕ → Place
place_at sec off = record { sec = sec; off = off }

-- the function with an index is the last one that holds a place
pub record IsLastHolder (fs : List Function) (place : Place) (i : ℕ) : Type 0 where
  pub inside : i < length fs
  pub holds : in_function (function fs i) place ≡ true
  pub last : (k : ℕ) → i < k → k < length fs → in_function (function fs k) place ≡ false

-- so is the one with this index, or no function holds the place
abbrev pub IsHolderOf : List Function → Place → Option ℕ → Type 0
IsHolderOf fs place None = (k : ℕ) → k < length fs → in_function (function fs k) place ≡ false
IsHolderOf fs place (Some i) = IsLastHolder fs place i
