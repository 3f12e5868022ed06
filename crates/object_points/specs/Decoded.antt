-- The decoded instructions of the points of an object, by numbers.
use Rattle.std.specs.Prelude.{◌≡◌, ℕ, List, Some, length, slice_get}
use Rattle.operation_defs.specs.declared.insn.Insn.{Insn}
use Rattle.flow_defs.specs.Arrival.{decoded_insn}
use Rattle.flow_defs.specs.Code.{point_at, points_of_object}
use Rattle.flow_defs.specs.Coded.{Coded}

-- the decoded instruction of each point is the one with its number among the kinds
pub record AreDecoded (o : Coded) (kinds : List Insn) (numbers : List ℕ) : Type 0 where
  pub long : length numbers ≡ length (points_of_object o)
  pub each : (n k : ℕ) → slice_get numbers n ≡ Some k → slice_get kinds k ≡ Some (decoded_insn o (point_at o n))
