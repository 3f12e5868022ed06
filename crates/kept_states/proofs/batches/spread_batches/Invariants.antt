use Rattle.std.proofs.Common.{◌≡◌, ℕ, ◌-◌, ◌≤◌, [], None, drop, length}
use Rattle.machine_defs.specs.Program.{Program}
use Rattle.machine_defs.specs.IsProgram.{IsProgram}
use Rattle.program_graph.specs.Tells.{Tells}
use Rattle.kept_states.specs.LevelStates.{at}
use Rattle.kept_states.specs.Ranks.{AreSpread}
use Rattle.kept_states.proofs.batches.spread_batches.Given as goal

abbrev pub invariant-batches : goal.invariant-batches
invariant-batches l = record {
  points : length l.levels.kept ≡ length l.graph.parts.points.items;
  next : length l.levels.next.states ≡ length l.levels.kept;
  none : (q : ℕ) → at l.levels.next.states q ≡ None;
  firsts : l.levels.firsts ≡ l.fn.levels.firsts;
  inside : l.from ≤ length l.fn.levels.firsts;
  spread : (p : Program) → Tells p l.graph.parts → IsProgram p → AreSpread p (at l.levels.kept) [] (drop l.from l.fn.levels.firsts);
}

abbrev pub decreases-batches : goal.decreases-batches
decreases-batches l = length l.fn.levels.firsts - l.from
