use Rattle.std.proofs.Common.{◌≡◌, take}
use Rattle.orc_merge.specs.Overlaps.{numbered}
use Rattle.orc_merge.proofs.overlaps.numbered.Given as goal

abbrev pub invariant-loop-number : goal.invariant-loop-number
invariant-loop-number l = l.ranges.items ≡ numbered 0 (take l.number l.owned)
