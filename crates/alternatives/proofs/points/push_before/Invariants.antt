use Rattle.std.proofs.Common.{◌≡◌, ◌-◌, ◌≤◌, ◌++◌, ◌∷◌, List, length, drop}
use Rattle.alternatives.specs.declared.point.Point.{Point}
use Rattle.alternatives.specs.Gathered.{woven}
use Rattle.alternatives.proofs.points.push_before.Given as goal

abbrev pub invariant-loop-point : goal.invariant-loop-point
invariant-loop-point l = record {
  within : l.next ≤ length l.others;
  points : (rest : List Point) → l.points.items ++ woven (l.point ∷ rest) (drop l.next l.others) ≡ l.fn.points.items ++ woven (l.point ∷ rest) (drop l.from l.others);
}

abbrev pub decreases-loop-point : goal.decreases-loop-point
decreases-loop-point l = length l.others - l.next
