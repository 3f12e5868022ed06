use Rattle.std.proofs.Common.{◌≡◌, take}
use Rattle.std.specs.Prelude.{All}
use Rattle.orc_walk.specs.Rows.{rows_of}
use Rattle.orc_walk.specs.Blocks.{HasFirsts, ranges_of}
use Rattle.orc_walk.proofs.blocks.blocks_of.Given as goal

abbrev pub invariant-loop-range : goal.invariant-loop-range
invariant-loop-range l = record {
  ranges : ranges_of l.blocks.items ≡ take l.range-index l.ranges;
  firsts : All (HasFirsts (rows_of l.items)) l.blocks.items;
}
