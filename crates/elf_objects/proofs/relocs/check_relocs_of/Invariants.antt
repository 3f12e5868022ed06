use Rattle.elf_objects.specs.Below.{AllBelow}
use Rattle.elf_objects.specs.Symbols.{IsReloc}
use Rattle.elf_objects.proofs.relocs.check_relocs_of.Given as goal

abbrev pub invariant-loop-k : goal.invariant-loop-k
invariant-loop-k l = AllBelow (IsReloc l.symbols.headers.bytes.now l.fn.i) l.k
