use Rattle.std.proofs.Common.{◌≡◌, ◌≤◌, ◌++◌, length, drop}
use Rattle.alternatives.specs.Gathered.{plain_points, woven}
use Rattle.alternatives.proofs.points.weave_points.Given as goal

abbrev pub invariant-loop-text : goal.invariant-loop-text
invariant-loop-text l = record {
  within : l.next ≤ length l.others;
  points : l.points.items ++ woven (plain_points (drop l.text-index l.texts)) (drop l.next l.others) ≡ woven (plain_points l.texts) l.others;
}

abbrev pub invariant-loop-n : goal.invariant-loop-n
invariant-loop-n l = l.points.items ++ drop l.n l.others ≡ woven (plain_points l.texts) l.others
