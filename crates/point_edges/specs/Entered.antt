-- At which entry control comes to stand at a point.
use Rattle.std.specs.Prelude.{ℕ, Contains}
use Rattle.flow_defs.specs.Coded.{Coded}
use Rattle.flow_defs.specs.Code.{point_at}
use Rattle.flow_defs.specs.Arrival.{arrive}
use Rattle.flow_defs.specs.Program.{entries_of}

-- control that comes to this entry may stand at the point
pub record IsEnteredAt (o : Coded) (entry q : ℕ) : Type 0 where
  pub listed : Contains (entries_of o) entry
  pub stands : Contains (arrive o (point_at o entry).place) q
