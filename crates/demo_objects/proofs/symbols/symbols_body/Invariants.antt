use Rattle.std.proofs.Common.{◌≡◌, ◌+◌, ◌++◌, drop, length, take}
use Rattle.std.specs.Prelude.{All}
use Rattle.std.specs.List.{flat_map}
use Rattle.demo_objects.specs.CanMake.{HasValues}
use Rattle.demo_objects.specs.Made.{name_text, strings_body, symbols_body, symbols_from}
use Rattle.demo_objects.specs.Spec.{symbols_of}
use Rattle.demo_objects.proofs.symbols.symbols_body.Given as goal

abbrev pub invariant-loop-symbol : goal.invariant-loop-symbol
invariant-loop-symbol l = record {
  written : l.body.items ++ symbols_from l.at (symbols_of (drop l.symbol-index l.symbols)) ≡ symbols_body (symbols_of l.symbols);
  room : l.at + length (flat_map (λ s. name_text s.name) (symbols_of (drop l.symbol-index l.symbols))) ≡ length (strings_body (symbols_of l.symbols));
  numbers : All HasValues (symbols_of (take l.symbol-index l.symbols));
}
