use Rattle.machine_defs.specs.Program.{Program}
use Rattle.machine_defs.specs.Allowances.{Allowances}
use Rattle.stack_rules.specs.Gains.{Gains}
use Rattle.stack_rules.proofs.GainsLemmas.{OfBelow}
use Rattle.program_check.specs.Tracks.{Tracks}
use Rattle.program_check.specs.Ways.{ways_at}
use Rattle.program_check.specs.PointWarns.{PointWarns}
use Rattle.program_check.proofs.access_points.push_points.Given as goal

abbrev pub invariant-loop-n : goal.invariant-loop-n
invariant-loop-n l =
    (p : Program) (allowed : Allowances) → Tracks p allowed l.graph.parts l.table
    → Gains l.fn.into.items l.into.items (OfBelow l.n (λ q. PointWarns p allowed (ways_at l.ways q) q))
