use Rattle.std.proofs.Common.{◌≡◌, ◌++◌, drop, take}
use Rattle.std.specs.Prelude.{All}
use Rattle.elf_write.specs.Added.{HasFields}
use Rattle.elf_write.specs.New.{entries}
use Rattle.demo_objects.proofs.sections.copies_of.Given as goal

abbrev pub invariant-loop-section : goal.invariant-loop-section
invariant-loop-section l = record {
  same : entries l.copies.items ++ entries (drop l.section-index l.sections) ≡ entries l.sections;
  numbers : All HasFields (entries (take l.section-index l.sections));
}
