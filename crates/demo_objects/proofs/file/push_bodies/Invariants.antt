use Rattle.std.proofs.Common.{◌≡◌, drop}
use Rattle.elf_write.specs.New.{entries}
use Rattle.demo_objects.specs.Layout.{with_bodies}
use Rattle.demo_objects.proofs.file.push_bodies.Given as goal

abbrev pub invariant-loop-section : goal.invariant-loop-section
invariant-loop-section l =
    with_bodies l.out.items (entries (drop l.section-index l.sections)) ≡ with_bodies l.initial.out.items (entries l.sections)
