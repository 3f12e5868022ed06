use Rattle.std.proofs.Common.{◌≡◌, ◌*◌, ◌-◌, length}
use Rattle.symbols_relocs.specs.RelocCounts.{AreBelow, CountBlocks}
use Rattle.symbols_relocs.proofs.near_relocs.list_counts.Given as goal

abbrev pub invariant-loop-block : goal.invariant-loop-block
invariant-loop-block l = record {
  at : length l.near.items ≡ l.block;
  blocks : CountBlocks l.relocs l.near.items;
  below : AreBelow l.relocs l.below (32 * l.block);
}

abbrev pub invariant-loop-below : goal.invariant-loop-below
invariant-loop-below l = AreBelow l.relocs l.below (32 * l.block)

abbrev pub decreases-loop-below : goal.decreases-loop-below
decreases-loop-below l = length l.relocs - l.below
