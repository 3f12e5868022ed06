use Rattle.std.proofs.Common.{length}
use Rattle.elf_objects.specs.Extents.{AreMarked, IsReach}
use Rattle.elf_objects.proofs.extents.mark_crowded.Given as goal

abbrev pub invariant-loop-p : goal.invariant-loop-p
invariant-loop-p l = record {
  reach : IsReach l.extents l.p l.reach;
  marks : AreMarked (length l.fn.marks.items) l.extents l.p l.marks.items;
}
