use Rattle.std.proofs.Common.{◌≡◌, ◌+◌, ◌<◌, ◌^◌, drop, length}
use Rattle.std.specs.List.{flat_map}
use Rattle.demo_objects.specs.Made.{name_text, strings_body}
use Rattle.demo_objects.specs.Spec.{symbols_of}
use Rattle.demo_objects.proofs.parts.strings_fit.Given as goal

abbrev pub invariant-loop-symbol : goal.invariant-loop-symbol
invariant-loop-symbol l = record {
  below : l.size < 2 ^ 32;
  rest : l.size + length (flat_map (λ s. name_text s.name) (symbols_of (drop l.symbol-index l.symbols))) ≡ length (strings_body (symbols_of l.symbols));
}
