use Rattle.std.proofs.Common.{[], map}
use Rattle.demo_objects.specs.Bodies.{AreRelocBodies}
use Rattle.demo_objects.proofs.relocs.empty_bodies.Given as goal

abbrev pub invariant-loop-sec : goal.invariant-loop-sec
invariant-loop-sec l = AreRelocBodies [] l._sec (map (λ v. v.items) l.bodies.items)
