use Rattle.std.proofs.Common.{take}
use Rattle.machine_defs.specs.Program.{Program}
use Rattle.machine_defs.specs.Allowances.{Allowances}
use Rattle.stack_rules.specs.Gains.{Gains}
use Rattle.stack_rules.proofs.GainsLemmas.{OfSome}
use Rattle.program_check.specs.Tracks.{Tracks}
use Rattle.program_check.specs.PointWarns.{EdgeCalls}
use Rattle.program_check.proofs.callees.push_edges.Given as goal

abbrev pub invariant-loop-edge : goal.invariant-loop-edge
invariant-loop-edge l =
    (p : Program) (allowed : Allowances) → Tracks p allowed l.graph.parts l.table
    → Gains l.fn.into.items l.into.items (OfSome (take l.edge-index l.edge-items) (EdgeCalls p allowed l.place))
