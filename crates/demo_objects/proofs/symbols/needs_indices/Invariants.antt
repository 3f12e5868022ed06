use Rattle.std.proofs.Common.{◌≡◌, drop}
use Rattle.demo_objects.specs.Made.{needs_indices}
use Rattle.demo_objects.specs.Spec.{symbols_of}
use Rattle.demo_objects.proofs.symbols.needs_indices.Given as goal

abbrev pub invariant-loop-symbol : goal.invariant-loop-symbol
invariant-loop-symbol l = needs_indices (symbols_of (drop l.symbol-index l.symbols)) ≡ needs_indices (symbols_of l.symbols)
