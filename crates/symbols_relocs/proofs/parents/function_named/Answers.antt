use Rattle.std.proofs.Common.{arith}
use Rattle.symbols_relocs.proofs.Numbers.{found_low}
use Rattle.symbols_relocs.proofs.parents.function_named.Goals as goal

pub returns-then-symbol-symbols-clause-named : goal.returns-then-symbol-symbols-clause-named
returns-then-symbol-symbols-clause-named c = λ part w.
    let low = found_low c.args.object.now part c.in_ok-symbol.symbol (c.in_ok-symbol.ensures c.args.object.now part w) in
    absurd (omega (arith, low, c.symbols.ensures.value, c.if-symbol-symbols.true))
