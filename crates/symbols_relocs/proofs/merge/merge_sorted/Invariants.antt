use Rattle.std.proofs.Common.{take}
use Rattle.symbols_relocs.specs.Lists.{AreMerged}
use Rattle.symbols_relocs.proofs.merge.merge_sorted.Given as goal

abbrev pub invariant-loop-symbol : goal.invariant-loop-symbol
invariant-loop-symbol l = AreMerged (take l.symbol-index l.symbols) l.functions.items
