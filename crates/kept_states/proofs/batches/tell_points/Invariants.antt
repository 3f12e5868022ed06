use Rattle.std.proofs.Common.{◌≡◌, ◌-◌, ◌≤◌, ℕ, None, IsSome, length}
use Rattle.machine_defs.specs.Program.{Program, IsPoint}
use Rattle.machine_defs.specs.Kept.{state_at}
use Rattle.program_graph.specs.Tells.{Tells}
use Rattle.kept_states.specs.LevelStates.{at}
use Rattle.kept_states.specs.Passages.{AreLinked, AreToldBelow}
use Rattle.kept_states.proofs.batches.tell_points.Given as goal

abbrev pub invariant-runs : goal.invariant-runs
invariant-runs l = record {
  within : l.run.end ≤ length l.graph.parts.points.items;
  passages : length l.passages.items ≡ length l.fn.passages.items;
  told : (p : Program) → Tells p l.graph.parts → AreToldBelow p l.passages.items l.run.end;
  linked : AreLinked l.passages.items l.run.end;
  kept : l.levels.kept ≡ l.fn.levels.kept;
  next : length l.levels.next.states ≡ length l.fn.levels.kept;
  offered : (p : Program) → Tells p l.graph.parts → (q : ℕ) → IsPoint p q → IsSome (at l.levels.next.states q) → at l.levels.next.states q ≡ state_at p 0 q;
  others : (q : ℕ) → l.run.end ≤ q → at l.levels.next.states q ≡ None;
}

abbrev pub decreases-runs : goal.decreases-runs
decreases-runs l = length l.graph.parts.points.items - l.run.end
