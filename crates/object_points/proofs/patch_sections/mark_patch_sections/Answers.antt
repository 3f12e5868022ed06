use Rattle.std.proofs.Common.{◌≡◌, ◌+◌, List, Bool, length, sym, subst, arith}
use Rattle.elf_objects.specs.Elf.{Elf}
use Rattle.object_points.proofs.PatchMarks.{AreMarked, all_marked, marked_more}
use Rattle.object_points.proofs.patch_sections.mark_patch_sections.Goals as goal

pub loop-sec-preserved : goal.loop-sec-preserved
loop-sec-preserved c =
    let o : Elf = c.args.object.now in
    subst (λ (marks : List Bool). AreMarked o marks (c.loop-sec.sec + 1)) (sym {A = List Bool} c.in_ok-push.ensures.items)
    (marked_more o c.loop-sec.marks.items c.loop-sec.sec c.is_patch_section.result c.loop-sec.invariant c.is_patch_section.ensures)

pub returns : goal.returns
returns c =
    let o : Elf = c.args.object.now in
    let whole : c.loop-sec.sec ≡ length o.sections = omega (arith, c.loop-sec-test.false, c.sections-sec-end.ensures.value) in
    all_marked o c.loop-sec.marks.items (subst (AreMarked o c.loop-sec.marks.items) whole c.loop-sec.invariant)
