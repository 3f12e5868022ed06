use Rattle.std.proofs.Common.{◌≡◌, ℕ, ◌-◌, ◌<◌, ◌≤◌, IsSome, length}
use Rattle.machine_defs.specs.Program.{Program, IsPoint}
use Rattle.machine_defs.specs.Kept.{state_at}
use Rattle.program_graph.specs.Tells.{Tells}
use Rattle.kept_states.specs.LevelStates.{at}
use Rattle.kept_states.proofs.spreading.offer_all_first.Given as goal

abbrev pub invariant-points : goal.invariant-points
invariant-points l = record {
  inside : l.n ≤ length l.graph.parts.points.items;
  kept : l.levels.kept ≡ l.fn.levels.kept;
  next : length l.levels.next.states ≡ length l.fn.levels.kept;
  first : (p : Program) → Tells p l.graph.parts → (q : ℕ) → q < l.n → at l.levels.next.states q ≡ state_at p 0 q;
  others : (p : Program) → Tells p l.graph.parts → (q : ℕ) → IsPoint p q → IsSome (at l.levels.next.states q) → at l.levels.next.states q ≡ state_at p 0 q;
}

abbrev pub decreases-points : goal.decreases-points
decreases-points l = length l.graph.parts.points.items - l.n
