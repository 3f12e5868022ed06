use Rattle.std.proofs.Common.{take}
use Rattle.std.specs.Prelude.{All}
use Rattle.demo_objects.specs.CanMake.{IsNewReloc}
use Rattle.demo_objects.proofs.parts.are_relocs.Given as goal

abbrev pub invariant-loop-rel : goal.invariant-loop-rel
invariant-loop-rel l = All (IsNewReloc l.count) (take l.rel-index l.relocs)
