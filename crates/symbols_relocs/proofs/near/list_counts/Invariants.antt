use Rattle.std.proofs.Common.{◌≡◌, ◌<◌, length}
use Rattle.symbols_relocs.proofs.near.list_counts.Given as goal

abbrev pub invariant-loop-index : goal.invariant-loop-index
invariant-loop-index l = length l.near.items ≡ l.count

abbrev pub invariant-loop-block : goal.invariant-loop-block
invariant-loop-block l = record {
  some : 0 < l.count;
  many : length l.near.items ≡ l.count;
}
