use Rattle.elf_objects.specs.Below.{AllBelow}
use Rattle.elf_objects.specs.Symbols.{HasRelocs}
use Rattle.elf_objects.proofs.relocs.check_relocs.Given as goal

abbrev pub invariant-loop-i : goal.invariant-loop-i
invariant-loop-i l = AllBelow (HasRelocs l.symbols.headers.bytes.now) l.i
