use Rattle.std.proofs.Common.{take, map}
use Rattle.demo_objects.specs.Bodies.{AreRelocBodies}
use Rattle.demo_objects.proofs.relocs.reloc_bodies.Given as goal

abbrev pub invariant-loop-rel : goal.invariant-loop-rel
invariant-loop-rel l = AreRelocBodies (take l.rel-index l.relocs) l.count (map (λ v. v.items) l.bodies.items)
