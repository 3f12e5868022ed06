use Rattle.std.proofs.Common.{◌<◌}
use Rattle.std.specs.List.{AllPairs}
use Rattle.elf_objects.specs.Extents.{AreExtents}
use Rattle.elf_objects.proofs.extents.list_extents.Given as goal

abbrev pub invariant-loop-i : goal.invariant-loop-i
invariant-loop-i l = record {
  extents : AreExtents l.headers.bytes.now l.i l.list.items;
  rising : AllPairs (λ x y. x.sec < y.sec) l.list.items;
}
