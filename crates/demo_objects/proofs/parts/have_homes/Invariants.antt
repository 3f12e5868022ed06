use Rattle.std.proofs.Common.{take}
use Rattle.demo_objects.specs.CanMake.{HaveHomes}
use Rattle.demo_objects.specs.Spec.{symbols_of}
use Rattle.demo_objects.proofs.parts.have_homes.Given as goal

abbrev pub invariant-loop-symbol : goal.invariant-loop-symbol
invariant-loop-symbol l = HaveHomes l.count (symbols_of (take l.symbol-index l.symbols))
