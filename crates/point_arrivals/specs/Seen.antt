-- Points of which it is told whether a list may say anything of their places.
use Rattle.std.specs.Prelude.{◌≡◌, ℕ, false}
use Rattle.flow_defs.specs.Coded.{Coded}
use Rattle.flow_defs.specs.Code.{point_at}
use Rattle.object_points.specs.Places.{is_among}
use Rattle.point_arrivals.specs.Lists.{told_places_of}
use Rattle.point_arrivals.specs.declared.told.SeenPoint.{SeenPoint}

-- it is the one with a number
pub record IsSeen (o : Coded) (n : ℕ) (x : SeenPoint) : Type 0 where
  pub point : x.point ≡ point_at o n
  pub untold : x.may_be_told ≡ false → is_among (told_places_of o) (point_at o n).place ≡ false
