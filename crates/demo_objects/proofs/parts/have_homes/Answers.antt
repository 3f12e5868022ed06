use Rattle.std.proofs.Common.{refl, arith}
use Rattle.demo_objects.specs.CanMake.{IsHome}
use Rattle.demo_objects.specs.Spec.{NewSymbol, symbol_of}
use Rattle.demo_objects.proofs.Items.{all-more, all-taken, item-all}
use Rattle.demo_objects.proofs.parts.have_homes.Goals as goal

pub returns-then-not-is_home : goal.returns-then-not-is_home
returns-then-not-is_home c = (
  λ h. absurd cc,
  λ all. (let ok = c.is_home.ensures.1 (item-all symbol_of (λ (x : NewSymbol). IsHome c.args.count x.home) c.args.symbols.now c.loop-symbol.symbol-index c.symbol-item.result c.symbol-item.is (omega arith) all) in let fails = c.if-not-is_home.true in grind arith),
)

pub loop-symbol-preserved : goal.loop-symbol-preserved
loop-symbol-preserved c =
    all-more symbol_of (λ (x : NewSymbol). IsHome c.args.count x.home) c.args.symbols.now c.loop-symbol.symbol-index c.symbol-item.result c.symbol-item.is (omega arith) c.loop-symbol.invariant (c.is_home.ensures.0 (let passes = c.if-not-is_home.false in grind arith))

pub returns : goal.returns
returns c = (λ _. all-taken symbol_of (λ (x : NewSymbol). IsHome c.args.count x.home) c.args.symbols.now c.loop-symbol.symbol-index (omega arith) c.loop-symbol.invariant, λ _. refl)
