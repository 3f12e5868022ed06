use Rattle.std.proofs.Common.{◌≡◌, ◌+◌, ◌-◌, length}
use Rattle.std.specs.Prelude.{EachIndex, slice_index}
use Rattle.orc_walk.specs.Rows.{rows_of}
use Rattle.orc_walk.specs.Blocks.{beginning_of, rows_below}
use Rattle.orc_walk.proofs.blocks.Blocks.of.Given as goal

abbrev pub invariant-loop-block : goal.invariant-loop-block
invariant-loop-block l = record {
  number : length l.firsts.items ≡ l.block - l.first;
  each : EachIndex l.firsts.items (λ k. slice_index l.firsts.items k ≡ rows_below (beginning_of (l.first + k)) (rows_of l.items));
}
