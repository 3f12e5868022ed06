use Rattle.std.proofs.Common.{◌≡◌, ℕ, ◌<◌, All, Contains, get_or}
use Rattle.std.specs.List.{AllPairs}
use Rattle.machine_defs.specs.Program.{Program}
use Rattle.program_graph.specs.Tells.{Tells}
use Rattle.stack_rules.specs.Sites.{AreApart}
use Rattle.stack_rules.specs.Points.{RunsIn}
use Rattle.stack_rules.proofs.site_points.points_among.Given as goal

abbrev pub invariant-loop-n : goal.invariant-loop-n
invariant-loop-n l = record {
  from : (q : ℕ) → Contains l.among.items q → (k : ℕ) × (k < l.n-index) × ((d : ℕ) → get_or l.points k d ≡ q);
  ascending : AllPairs (λ (q r : ℕ). q < r) l.points → AllPairs (λ (q r : ℕ). q < r) l.among.items;
  told : (p : Program) → Tells p l.graph.parts → All (RunsIn p l.sites) l.among.items;
  all : (p : Program) → Tells p l.graph.parts → AreApart l.sites → (k d : ℕ) → k < l.n-index → RunsIn p l.sites (get_or l.points k d) → Contains l.among.items (get_or l.points k d);
}
