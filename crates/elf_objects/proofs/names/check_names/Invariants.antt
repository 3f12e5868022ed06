use Rattle.elf_objects.specs.Below.{AllBelow}
use Rattle.elf_objects.specs.Sections.{HasName}
use Rattle.elf_objects.proofs.names.check_names.Given as goal

abbrev pub invariant-loop-i : goal.invariant-loop-i
invariant-loop-i l = AllBelow (HasName l.headers.bytes.now) l.i
