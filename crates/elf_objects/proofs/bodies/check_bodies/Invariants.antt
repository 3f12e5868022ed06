use Rattle.elf_objects.specs.Below.{AllBelow}
use Rattle.elf_objects.specs.Sections.{HasBody}
use Rattle.elf_objects.proofs.bodies.check_bodies.Given as goal

abbrev pub invariant-loop-i : goal.invariant-loop-i
invariant-loop-i l = AllBelow (HasBody l.headers.bytes.now) l.i
