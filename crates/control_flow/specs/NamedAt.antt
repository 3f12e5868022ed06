-- By what number calls name the points at which control stands that they bring.
use Rattle.std.specs.Prelude.{◌≡◌, ◌||◌, ℕ, Bool, true, Contains, Some, is_none}
use Rattle.flow_defs.specs.Coded.{Coded}
use Rattle.flow_defs.specs.Arrival.{arrive}
use Rattle.flow_defs.specs.Code.{number_of, plain_point, point_at}
use Rattle.flow_defs.specs.Owners.{is_entry, owner_of_point}

-- a call may name the point with a number by it: an entry stands there, or it is code of no function
abbrev pub is_called : Coded → ℕ → Bool
is_called o entry = is_entry o.elf (point_at o entry).place || is_none (owner_of_point o (point_at o entry))

-- control that comes to such a plain point may stand at point q
pub record IsNamedAt (o : Coded) (entry q : ℕ) : Type 0 where
  pub number : number_of o (plain_point (point_at o entry).place) ≡ Some entry
  pub stands : Contains (arrive o (point_at o entry).place) q
  pub called : is_called o entry ≡ true
