use Rattle.std.proofs.Common.{◌≡◌, ◌++◌, take}
use Rattle.orc_merge.specs.Parts.{owned_ranges}
use Rattle.orc_merge.proofs.overlaps.add_ranges.Given as goal

abbrev pub invariant-loop-range : goal.invariant-loop-range
invariant-loop-range l = l.owned.items ≡ l.initial.owned.items ++ owned_ranges l.number (take l.range-index l.ranges)
