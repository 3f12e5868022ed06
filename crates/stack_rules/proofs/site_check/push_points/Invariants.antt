use Rattle.std.proofs.Common.{◌≡◌, ℕ, ◌-◌, ◌<◌, All, get_or, length, take}
use Rattle.std.specs.List.{AllPairs}
use Rattle.machine_defs.specs.Program.{Program}
use Rattle.machine_defs.specs.IsProgram.{IsLaidOut}
use Rattle.program_graph.specs.Tells.{Tells}
use Rattle.kept_states.specs.LevelStates.{at}
use Rattle.stack_rules.specs.Gains.{Gains}
use Rattle.stack_rules.proofs.GainsLemmas.{OfSome}
use Rattle.stack_rules.specs.Sites.{IsIndexOf}
use Rattle.stack_rules.specs.Points.{ComesBefore}
use Rattle.stack_rules.specs.Disagree.{FitPoint, IsInForceAt, PointDisagrees}
use Rattle.stack_rules.proofs.site_check.push_points.Given as goal

abbrev pub invariant-loop-i : goal.invariant-loop-i
invariant-loop-i l = record {
  known : 0 < l.i → l.first.point < length l.graph.parts.points.items;
  force : (p : Program) → Tells p l.graph.parts → AllPairs (ComesBefore p) l.points → (d : ℕ) → 0 < l.i → IsInForceAt p l.points (p.address (get_or l.points (l.i - 1) d)) l.first.point;
  address : (p : Program) → Tells p l.graph.parts → (d : ℕ) → 0 < l.i → l.first.address ≡ p.address (get_or l.points (l.i - 1) d);
  gains : (p : Program) → Tells p l.graph.parts → IsIndexOf p l.sites → IsLaidOut p → AllPairs (ComesBefore p) l.points → All (FitPoint p) l.points → Gains l.fn.into.items l.into.items (OfSome (take l.i l.points) (PointDisagrees p (at l.kept) l.points));
}
