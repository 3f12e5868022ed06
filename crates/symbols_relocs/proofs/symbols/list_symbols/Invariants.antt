use Rattle.std.proofs.Common.{◌≡◌, ℕ, ◌<◌, false}
use Rattle.symbols_relocs.specs.Functions.{leaves_section}
use Rattle.symbols_relocs.specs.Lists.{AreSymbols}
use Rattle.symbols_relocs.proofs.symbols.list_symbols.Given as goal

abbrev pub invariant-loop-k : goal.invariant-loop-k
invariant-loop-k l = AreSymbols l.object l.k l.list.items × ((j : ℕ) → j < l.k → leaves_section l.object j ≡ false)
