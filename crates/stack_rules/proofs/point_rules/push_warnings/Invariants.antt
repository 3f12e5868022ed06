use Rattle.std.proofs.Common.{◌≤◌, ◌-◌, length}
use Rattle.machine_defs.specs.Program.{Program}
use Rattle.program_graph.specs.Tells.{Tells}
use Rattle.stack_rules.specs.Checks.{Checks}
use Rattle.stack_rules.specs.Gains.{Gains}
use Rattle.stack_rules.specs.PointWarns.{PointWarns}
use Rattle.stack_rules.specs.Quiet.{ArePassing}
use Rattle.stack_rules.proofs.GainsLemmas.{OfBelow}
use Rattle.stack_rules.proofs.point_rules.push_warnings.Given as goal

abbrev pub invariant-loop-n : goal.invariant-loop-n
invariant-loop-n l = record {
  to : l.from ≤ length l.graph.parts.points.items;
  passing : (p : Program) → Tells p l.graph.parts → ArePassing p l.kept l.passing;
  warnings : (p : Program) → Checks p l.graph.parts l.kept → Gains l.fn.into.items l.into.items (OfBelow l.from (PointWarns p l.kept));
}

abbrev pub decreases-loop-n : goal.decreases-loop-n
decreases-loop-n l = length l.graph.parts.points.items - l.from
