use Rattle.machine_defs.specs.Program.{Program}
use Rattle.program_graph.specs.Tells.{Tells}
use Rattle.machine_defs.specs.Allowances.{Allowances}
use Rattle.program_check.specs.Allows.{Allows}
use Rattle.stack_rules.specs.Gains.{Gains}
use Rattle.stack_rules.proofs.GainsLemmas.{OfBelow}
use Rattle.program_check.specs.Branches.{PointWarns}
use Rattle.program_check.proofs.safe_branches.push_branches.Given as goal

abbrev pub invariant-loop-n : goal.invariant-loop-n
invariant-loop-n l =
    (p : Program) (allowed : Allowances) → Tells p l.graph.parts → Allows allowed l.table p.count
    → Gains l.fn.warnings.items l.warnings.items (OfBelow l.n (PointWarns p allowed l.options))
