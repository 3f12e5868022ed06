use Rattle.std.proofs.Common.{◌≡◌, ◌+◌, ◌≤◌, ◌++◌, length, map, filter}
use Rattle.std.specs.List.{range_with_len}
use Rattle.alternatives.specs.Gathered.{replaced_at}
use Rattle.alternatives.specs.Points.{is_point}
use Rattle.alternatives.proofs.points.push_replaced.Given as goal

abbrev pub invariant-loop-distance : goal.invariant-loop-distance
invariant-loop-distance l = (l.points.items ≡ l.fn.points.items ++ filter (is_point l.texts l.entries) (map (replaced_at l.entries l.entry) (range_with_len 0 l.distance))) × (length l.points.items ≤ length l.fn.points.items + l.distance)
