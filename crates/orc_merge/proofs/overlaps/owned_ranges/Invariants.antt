use Rattle.std.proofs.Common.{◌≡◌, take}
use Rattle.orc_merge.specs.Parts.{all_ranges}
use Rattle.orc_merge.proofs.overlaps.owned_ranges.Given as goal

abbrev pub invariant-loop-number : goal.invariant-loop-number
invariant-loop-number l = l.owned.items ≡ all_ranges (take l.number l.parts)
