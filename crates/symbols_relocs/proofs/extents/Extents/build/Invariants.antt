use Rattle.symbols_relocs.specs.Extents.{AreByStart, HaveSameBytes, Reach}
use Rattle.symbols_relocs.proofs.extents.Extents.build.Given as goal

abbrev pub invariant-loop-k : goal.invariant-loop-k
invariant-loop-k l = record {
  sorted : AreByStart l.extents.items;
  reach : Reach l.extents.items l.k;
  same : HaveSameBytes l.fn.extents.items l.extents.items;
}
