use Rattle.std.proofs.Common.{◌≡◌, ◌≤◌, ℕ, None, IsSome, length}
use Rattle.machine_defs.specs.Program.{Program, IsPoint}
use Rattle.machine_defs.specs.Kept.{state_at}
use Rattle.program_graph.specs.Tells.{Tells}
use Rattle.kept_states.specs.LevelStates.{at}
use Rattle.kept_states.proofs.batches.offer_run_first.Given as goal

abbrev pub invariant-loop-n : goal.invariant-loop-n
invariant-loop-n l = record {
  kept : l.levels.kept ≡ l.fn.levels.kept;
  next : length l.levels.next.states ≡ length l.fn.levels.kept;
  offered : (p : Program) → Tells p l.graph.parts → (q : ℕ) → IsPoint p q → IsSome (at l.levels.next.states q) → at l.levels.next.states q ≡ state_at p 0 q;
  others : (q : ℕ) → l.n ≤ q → at l.levels.next.states q ≡ None;
}
