-- The numbers of points to which control comes.
use Rattle.std.specs.Prelude.{◌+◌, ◌&&◌, not, ℕ, Option, Some, None, if◌then◌else◌, option_and_then}
use Rattle.ot_base.specs.declared.place.Place.{Place}
use Rattle.flow_defs.specs.Coded.{Coded}
use Rattle.alternatives.specs.declared.point.Point.{Point}
use Rattle.flow_defs.specs.Arrival.{next_of_replacement}
use Rattle.flow_defs.specs.Code.{alternatives_of, number_of, plain_point, point_at}
use Rattle.object_points.specs.Places.{is_among}
use Rattle.point_arrivals.specs.Lists.{original_places_of}
use Rattle.point_arrivals.specs.Marks.{is_listed}
use Rattle.point_arrivals.specs.Straight.{ends_at_next}

-- the number of the point of its replacement that follows a point
abbrev pub number_of_next : Coded → Point → Option ℕ
number_of_next o p = option_and_then (number_of o) (next_of_replacement o p)

-- the number of the plain point at a place, where no site starts there
abbrev pub number_alone : Coded → Place → Option ℕ
number_alone o place = if is_among (original_places_of (alternatives_of o)) place then None else number_of o (plain_point place)

-- the next number, where no list says anything of the point with a number, and the plain point where it ends has the next
abbrev pub next_alone : Coded → ℕ → Option ℕ
next_alone o n = if not (is_listed o (point_at o n)) && ends_at_next o n then Some (n + 1) else None
