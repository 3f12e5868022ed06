-- Nothing is told of the points so far.
use Rattle.std.proofs.Common.{◌≤◌, ◌<◌, ℕ}
use Rattle.ot_base.specs.declared.warning.Warning.{Warning}
use Rattle.machine_defs.specs.Program.{Program}
use Rattle.program_graph.specs.Tells.{Tells}
use Rattle.stack_rules.specs.PointWarns.{PointWarns}
use Rattle.stack_rules.proofs.point_rules.skip_quiet.Given as goal

abbrev pub invariant-loop-n : goal.invariant-loop-n
invariant-loop-n l = (p : Program) → Tells p l.graph.parts → (k : ℕ) → l.from ≤ k → k < l.n → (w : Warning) → PointWarns p l.kept k w → ⊥
