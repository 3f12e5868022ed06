use Rattle.elf_objects.specs.Contents.{section_at}
use Rattle.taken_places.specs.Taken.{has_text}
use Rattle.taken_places.proofs.MarkedNames.{AreMarksTo}
use Rattle.taken_places.proofs.marked.list_marked.Given as goal

abbrev pub invariant-loop-sec : goal.invariant-loop-sec
invariant-loop-sec l = AreMarksTo (λ sec. has_text l.text (section_at l.object sec).name) l.sec l.marks.items
