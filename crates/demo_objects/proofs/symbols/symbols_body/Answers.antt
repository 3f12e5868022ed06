use Rattle.std.proofs.Common.{◌<◌, arith}
use Rattle.std.proofs.lemmas.Grind.{common_steps}
use Rattle.demo_objects.specs.CanMake.{HasValues}
use Rattle.demo_objects.specs.Spec.{NewSymbol, symbol_of}
use Rattle.demo_objects.proofs.Items.{all-more, all-taken, item-all}
use Rattle.demo_objects.proofs.symbols.symbols_body.Goals as goal

pub push_symbol-requires-clause-bind : goal.push_symbol-requires-clause-bind
push_symbol-requires-clause-bind c =
    item-all symbol_of (λ (s : NewSymbol). s.bind < 16) c.args.symbols.now c.loop-symbol.symbol-index c.symbol-item.result c.symbol-item.is (omega arith) c.requires.bind

pub push_symbol-requires-clause-kind : goal.push_symbol-requires-clause-kind
push_symbol-requires-clause-kind c =
    item-all symbol_of (λ (s : NewSymbol). s.kind < 16) c.args.symbols.now c.loop-symbol.symbol-index c.symbol-item.result c.symbol-item.is (omega arith) c.requires.kind

pub loop-symbol-preserved : goal.loop-symbol-preserved
loop-symbol-preserved c = record {
  written = grind (arith, common_steps);
  room = grind (arith, common_steps);
  numbers = all-more symbol_of HasValues c.args.symbols.now c.loop-symbol.symbol-index c.symbol-item.result c.symbol-item.is (omega arith) c.loop-symbol.invariant.numbers c.in_ok-push_symbol.ensures.numbers;
}

pub returns-clause-numbers : goal.returns-clause-numbers
returns-clause-numbers c = all-taken symbol_of HasValues c.args.symbols.now c.loop-symbol.symbol-index (omega arith) c.loop-symbol.invariant.numbers
