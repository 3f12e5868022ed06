use Rattle.std.proofs.Common.{◌≡◌, Some, take}
use Rattle.machine_defs.specs.Program.{Program}
use Rattle.kept_states.specs.LevelStates.{at}
use Rattle.stack_rules.specs.Checks.{Checks}
use Rattle.stack_rules.specs.Gains.{Gains}
use Rattle.stack_rules.specs.PointWarns.{EdgeWarns}
use Rattle.stack_rules.proofs.GainsLemmas.{OfSome}
use Rattle.stack_rules.proofs.point_rules.push_edges.Given as goal

abbrev pub invariant-loop-edge : goal.invariant-loop-edge
invariant-loop-edge l =
    (p : Program) → Checks p l.graph.parts l.kept → at l.kept l.n ≡ Some l.state
    → Gains l.fn.into.items l.into.items (OfSome (take l.edge-index l.edge-items) (EdgeWarns p l.kept l.n l.state))
