use Rattle.std.proofs.Common.{ℕ, ◌<◌, ◌≤◌, ◌-◌, All, Contains, IsSome, length}
use Rattle.std.specs.List.{AllPairs}
use Rattle.machine_defs.specs.Program.{Program}
use Rattle.program_graph.specs.declared.parts.GraphSite.{GraphSite}
use Rattle.program_graph.specs.Tells.{Tells}
use Rattle.kept_states.specs.LevelStates.{at}
use Rattle.stack_rules.specs.Sites.{AreApart}
use Rattle.stack_rules.specs.Gaps.{IsClear}
use Rattle.stack_rules.specs.Points.{IsStartOf, RunsIn}
use Rattle.stack_rules.proofs.site_points.points_in.Given as goal

abbrev pub invariant-loop-n : goal.invariant-loop-n
invariant-loop-n l = record {
  to : l.from ≤ length l.graph.parts.points.items;
  clear : AreApart l.sites → IsClear l.sites l.gap;
  ascending : AllPairs (λ (q r : ℕ). q < r) l.points.items;
  below : All (λ (q : ℕ). q < l.from) l.points.items;
  kept : All (λ (q : ℕ). IsSome (at l.kept q)) l.points.items;
  told : (p : Program) → Tells p l.graph.parts → All (RunsIn p l.sites) l.points.items;
  some : All (λ (site : GraphSite). 0 < site.len) l.starts.items;
  starts : (p : Program) → Tells p l.graph.parts → (site : GraphSite) → Contains l.starts.items site → Contains l.sites site × ((q : ℕ) × Contains l.points.items q × IsStartOf p site q);
  started : (p : Program) → Tells p l.graph.parts → AreApart l.sites → (q : ℕ) (site : GraphSite) → Contains l.points.items q → Contains l.sites site → IsStartOf p site q → Contains l.starts.items site;
  all : (p : Program) → Tells p l.graph.parts → AreApart l.sites → (q : ℕ) → q < l.from → IsSome (at l.kept q) → RunsIn p l.sites q → Contains l.points.items q;
}

abbrev pub decreases-loop-n : goal.decreases-loop-n
decreases-loop-n l = length l.graph.parts.points.items - l.from
