use Rattle.std.proofs.Common.{take}
use Rattle.std.specs.Prelude.{All}
use Rattle.elf_write.specs.New.{entries}
use Rattle.demo_objects.specs.CanMake.{IsSection}
use Rattle.demo_objects.proofs.parts.are_sections.Given as goal

abbrev pub invariant-loop-section : goal.invariant-loop-section
invariant-loop-section l = All IsSection (entries (take l.section-index l.sections))
