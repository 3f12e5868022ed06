use Rattle.elf_objects.specs.Below.{AllBelow}
use Rattle.elf_objects.specs.Found.{AreSectionSymbols}
use Rattle.elf_objects.specs.Symbols.{IsSymbol}
use Rattle.elf_objects.proofs.check_symbols.check_symbols.Given as goal

abbrev pub invariant-loop-k : goal.invariant-loop-k
invariant-loop-k l = record {
  symbols : AllBelow (IsSymbol l.symbols.headers.bytes.now) l.k;
  found : AreSectionSymbols l.symbols.headers.bytes.now l.k l.found.items;
}
