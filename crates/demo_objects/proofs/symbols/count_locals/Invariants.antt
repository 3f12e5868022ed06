use Rattle.std.proofs.Common.{◌≡◌, ◌+◌, ◌≤◌, drop, length}
use Rattle.std.specs.Prelude.{filter}
use Rattle.demo_objects.specs.Made.{is_local}
use Rattle.demo_objects.specs.Spec.{symbols_of}
use Rattle.demo_objects.proofs.symbols.count_locals.Given as goal

abbrev pub invariant-loop-symbol : goal.invariant-loop-symbol
invariant-loop-symbol l = record {
  counted : l.count + length (filter is_local (symbols_of (drop l.symbol-index l.symbols))) ≡ length (filter is_local (symbols_of l.symbols));
  few : l.count ≤ l.symbol-index;
}
