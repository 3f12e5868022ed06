use Rattle.std.proofs.Common.{◌-◌, ◌<◌, ◌≤◌, length}
use Rattle.alternatives.specs.Sorted.{NoneOverlap, SomeOverlap}
use Rattle.alternatives.proofs.overlap.first_overlap.Given as goal

abbrev pub invariant-loop-high : goal.invariant-loop-high
invariant-loop-high l = record {
  order : l.low < l.high;
  inside : l.high ≤ length l.entries;
  none : NoneOverlap l.entries l.low;
  some : SomeOverlap l.entries l.high;
}

abbrev pub decreases-loop-high : goal.decreases-loop-high
decreases-loop-high l = l.high - l.low
