use Rattle.std.proofs.Common.{take}
use Rattle.std.specs.Prelude.{All}
use Rattle.demo_objects.specs.CanMake.{IsNewSymbol}
use Rattle.demo_objects.specs.Spec.{symbols_of}
use Rattle.demo_objects.proofs.parts.are_symbols.Given as goal

abbrev pub invariant-loop-symbol : goal.invariant-loop-symbol
invariant-loop-symbol l = All IsNewSymbol (symbols_of (take l.symbol-index l.symbols))
