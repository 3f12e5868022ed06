use Rattle.std.proofs.Common.{◌≡◌, ℕ, ◌<◌, List, None, All, Contains, IsSome, length}
use Rattle.machine_defs.specs.Program.{Program}
use Rattle.machine_defs.specs.IsProgram.{IsProgram}
use Rattle.program_graph.specs.Tells.{Tells}
use Rattle.kept_states.specs.Batches.{InBatch, MetNoSettled}
use Rattle.kept_states.specs.Done.{HaveGivenAll}
use Rattle.kept_states.specs.LevelStates.{StaysSame, at, count_open}
use Rattle.kept_states.proofs.spreading.spread_levels.Given as goal

abbrev pub invariant-rounds : goal.invariant-rounds
invariant-rounds l = record {
  points : length l.levels.kept ≡ length l.graph.parts.points.items;
  next : length l.levels.next.states ≡ length l.levels.kept;
  none : (q : ℕ) → at l.levels.next.states q ≡ None;
  front : All (λ q. q < length l.levels.kept) l.levels.front;
  front_kept : (q : ℕ) → Contains l.levels.front q → IsSome (at l.levels.kept q);
  done : (p : Program) → Tells p l.graph.parts → HaveGivenAll p l.levels;
  same : StaysSame l.fn.levels l.levels;
  batch : (p : Program) (waiting : List ℕ) → Tells p l.graph.parts → IsProgram p → InBatch p l.fn.levels waiting → MetNoSettled l.levels.next → InBatch p l.levels waiting;
}

abbrev pub decreases-rounds : goal.decreases-rounds
decreases-rounds l = count_open l.levels.kept
