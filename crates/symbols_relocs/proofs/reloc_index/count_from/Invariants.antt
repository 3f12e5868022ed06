use Rattle.std.proofs.Common.{ℕ, ◌<◌, get_or, length}
use Rattle.elf_objects.specs.declared.symbol.Reloc.{Reloc}
use Rattle.symbols_relocs.proofs.reloc_index.count_from.Given as goal

abbrev pub invariant-loop-index : goal.invariant-loop-index
invariant-loop-index l = (k : ℕ) (d : Reloc) → k < l.index → k < length l.relocs → (get_or l.relocs k d).offset < l.off
