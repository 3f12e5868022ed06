use Rattle.std.proofs.Common.{refl, arith}
use Rattle.demo_objects.specs.CanMake.{IsNewSymbol}
use Rattle.demo_objects.specs.Spec.{symbol_of}
use Rattle.demo_objects.proofs.Items.{all-more, all-taken, item-all}
use Rattle.demo_objects.proofs.parts.are_symbols.Goals as goal

pub returns-then-not-is_symbol : goal.returns-then-not-is_symbol
returns-then-not-is_symbol c = (
  λ h. absurd cc,
  λ all. (let ok = c.is_symbol.ensures.1 (item-all symbol_of IsNewSymbol c.args.symbols.now c.loop-symbol.symbol-index c.symbol-item.result c.symbol-item.is (omega arith) all) in let fails = c.if-not-is_symbol.true in grind arith),
)

pub loop-symbol-preserved : goal.loop-symbol-preserved
loop-symbol-preserved c =
    all-more symbol_of IsNewSymbol c.args.symbols.now c.loop-symbol.symbol-index c.symbol-item.result c.symbol-item.is (omega arith) c.loop-symbol.invariant (c.is_symbol.ensures.0 (let passes = c.if-not-is_symbol.false in grind arith))

pub returns : goal.returns
returns c = (λ _. all-taken symbol_of IsNewSymbol c.args.symbols.now c.loop-symbol.symbol-index (omega arith) c.loop-symbol.invariant, λ _. refl)
