-- The points so far run in the gap.
use Rattle.std.proofs.Common.{◌≡◌, ◌≤◌, ◌<◌, ℕ, true}
use Rattle.machine_defs.specs.Program.{Program}
use Rattle.program_graph.specs.Tells.{Tells}
use Rattle.stack_rules.specs.Gaps.{is_in_gap}
use Rattle.stack_rules.proofs.site_points.skip_gap.Given as goal

abbrev pub invariant-loop-n : goal.invariant-loop-n
invariant-loop-n l = (p : Program) → Tells p l.graph.parts → (k : ℕ) → l.from ≤ k → k < l.n → is_in_gap l.gap (p.address k) ≡ true
