-- Points of which an object's lists say something, or that are dead ends.
use Rattle.std.specs.Prelude.{◌||◌, Bool}
use Rattle.flow_defs.specs.Coded.{Coded}
use Rattle.alternatives.specs.declared.point.Point.{Point}
use Rattle.flow_defs.specs.Arrival.{is_dead_end}
use Rattle.flow_defs.specs.Edges.{fixups, is_some_place, static_targets}

-- static branches or exception entries lead from a point, or it is a dead end
abbrev pub is_listed : Coded → Point → Bool
is_listed o p = is_some_place (static_targets o p) || (is_some_place (fixups o p) || is_dead_end o p)
