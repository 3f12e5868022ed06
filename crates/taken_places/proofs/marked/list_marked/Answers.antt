use Rattle.std.proofs.Common.{◌+◌, ℕ, Bool, sym, subst}
use Rattle.elf_objects.specs.Contents.{section_at}
use Rattle.taken_places.specs.Taken.{has_text}
use Rattle.taken_places.proofs.MarkedNames.{AreMarksTo, marks_more}
use Rattle.taken_places.proofs.marked.list_marked.Goals as goal

pub loop-sec-preserved : goal.loop-sec-preserved
loop-sec-preserved c =
    let f : ℕ → Bool = λ sec. has_text c.args.text.now (section_at c.args.object.now sec).name in
    subst (AreMarksTo f (c.loop-sec.sec + 1)) (sym c.in_ok-push.ensures.items) (marks_more f c.loop-sec.sec c.loop-sec.marks.items c.has_text_at.result c.loop-sec.invariant c.has_text_at.ensures)
