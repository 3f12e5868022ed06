use Rattle.std.proofs.Common.{take}
use Rattle.machine_defs.specs.Program.{Program}
use Rattle.stack_rules.specs.Gains.{Gains}
use Rattle.stack_rules.proofs.GainsLemmas.{OfSome}
use Rattle.entry_rules.specs.Facts.{EntryFacts}
use Rattle.entry_rules.specs.PointWarns.{EdgeLeaves}
use Rattle.entry_rules.specs.Table.{Knows}
use Rattle.entry_rules.proofs.leaving.push_edges.Given as goal

abbrev pub invariant-loop-edge : goal.invariant-loop-edge
invariant-loop-edge l =
    (p : Program) (facts : EntryFacts) → Knows p facts l.graph.parts l.flags
    → Gains l.fn.into.items l.into.items (OfSome (take l.edge-index l.edge-items) (EdgeLeaves p facts l.place))
