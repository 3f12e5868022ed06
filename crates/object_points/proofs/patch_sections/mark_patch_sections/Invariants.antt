use Rattle.object_points.proofs.PatchMarks.{AreMarked}
use Rattle.object_points.proofs.patch_sections.mark_patch_sections.Given as goal

abbrev pub invariant-loop-sec : goal.invariant-loop-sec
invariant-loop-sec l = AreMarked l.object l.marks.items l.sec
