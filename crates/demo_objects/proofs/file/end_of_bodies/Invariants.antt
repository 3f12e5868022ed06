use Rattle.std.proofs.Common.{◌≡◌, drop}
use Rattle.elf_write.specs.New.{entries}
use Rattle.demo_objects.specs.Layout.{bodies_end}
use Rattle.demo_objects.proofs.file.end_of_bodies.Given as goal

abbrev pub invariant-loop-section : goal.invariant-loop-section
invariant-loop-section l =
    bodies_end l.end (entries (drop l.section-index l.sections)) ≡ bodies_end 64 (entries l.sections)
