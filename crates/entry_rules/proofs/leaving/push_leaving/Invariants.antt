use Rattle.machine_defs.specs.Program.{Program}
use Rattle.stack_rules.specs.Gains.{Gains}
use Rattle.stack_rules.proofs.GainsLemmas.{OfBelow}
use Rattle.entry_rules.specs.Facts.{EntryFacts}
use Rattle.entry_rules.specs.PointWarns.{PointLeaves}
use Rattle.entry_rules.specs.Table.{Knows}
use Rattle.entry_rules.proofs.leaving.push_leaving.Given as goal

abbrev pub invariant-loop-n : goal.invariant-loop-n
invariant-loop-n l =
    (p : Program) (facts : EntryFacts) → Knows p facts l.graph.parts l.flags
    → Gains l.fn.into.items l.into.items (OfBelow l.n (PointLeaves p facts))
