use Rattle.std.proofs.Common.{◌≡◌, ◌++◌, drop}
use Rattle.std.specs.List.{flat_map}
use Rattle.elf_write.specs.Layout.{encoded}
use Rattle.demo_objects.specs.Made.{index_of, indices_body}
use Rattle.demo_objects.specs.Spec.{symbols_of}
use Rattle.demo_objects.proofs.symbols.indices_body.Given as goal

abbrev pub invariant-loop-symbol : goal.invariant-loop-symbol
invariant-loop-symbol l =
    l.body.items ++ flat_map (λ s. encoded 4 (index_of s.home)) (symbols_of (drop l.symbol-index l.symbols)) ≡ indices_body (symbols_of l.symbols)
