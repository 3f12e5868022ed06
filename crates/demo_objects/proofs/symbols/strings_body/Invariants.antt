use Rattle.std.proofs.Common.{◌≡◌, ◌++◌, drop}
use Rattle.std.specs.List.{flat_map}
use Rattle.demo_objects.specs.Made.{name_text, strings_body}
use Rattle.demo_objects.specs.Spec.{symbols_of}
use Rattle.demo_objects.proofs.symbols.strings_body.Given as goal

abbrev pub invariant-loop-symbol : goal.invariant-loop-symbol
invariant-loop-symbol l =
    l.body.items ++ flat_map (λ s. name_text s.name) (symbols_of (drop l.symbol-index l.symbols)) ≡ strings_body (symbols_of l.symbols)
