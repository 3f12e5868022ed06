-- Where the points of an object whose code is read lie.
use Rattle.std.specs.Prelude.{◌≡◌, ◌<◌, ◌≤◌, ℕ, false, length}
use Rattle.flow_defs.specs.Coded.{Coded}
use Rattle.alternatives.specs.declared.point.Point.{Point}
use Rattle.flow_defs.specs.Arrival.{site_end}
use Rattle.flow_defs.specs.Code.{is_plain, point_at, points_of_object}

-- a point, and the end of its site, lie in the first 16 MiB of their sections or right behind these
pub record IsLow (o : Coded) (p : Point) : Type 0 where
  pub place : p.place.off ≤ 16777216
  pub site : is_plain p ≡ false → (site_end o p).off ≤ 16777216

-- all points do
abbrev pub AreLow : Coded → Type 0
AreLow o = (n : ℕ) → n < length (points_of_object o) → IsLow o (point_at o n)
