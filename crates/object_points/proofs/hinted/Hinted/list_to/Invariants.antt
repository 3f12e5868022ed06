use Rattle.object_points.specs.Hinted.{AreListed}
use Rattle.object_points.proofs.hinted.Hinted.list_to.Given as goal

abbrev pub invariant-loop-n : goal.invariant-loop-n
invariant-loop-n l = AreListed l.places l.n l.self.saves.items l.self.restores.items
