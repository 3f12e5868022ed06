use Rattle.std.proofs.Common.{◌≡◌}
use Rattle.demo_objects.specs.Demo.{demo_symbols, demo_text}
use Rattle.demo_objects.specs.Spec.{symbols_of}
use Rattle.demo_objects.proofs.functions.spec_of_functions.Given as goal

abbrev pub invariant-loop-i : goal.invariant-loop-i
invariant-loop-i l = record {
  symbols : symbols_of l.symbols.items ≡ demo_symbols l.i;
  text : l.text.items ≡ demo_text l.i;
}
