use Rattle.std.proofs.Common.{◌≡◌, Some, length, take}
use Rattle.machine_defs.specs.Program.{Program}
use Rattle.machine_defs.specs.Kept.{edges_of, moved_at}
use Rattle.program_graph.specs.Tells.{Tells}
use Rattle.kept_states.specs.Gives.{IsGiven}
use Rattle.kept_states.specs.LevelStates.{StaysSame, at}
use Rattle.state_defs.specs.declared.state.State.{State}
use Rattle.kept_states.specs.Told.{AreLeast}
use Rattle.kept_states.proofs.Giving.{WithEdges, WithRestores}
use Rattle.kept_states.proofs.spreading.give_each.Given as goal

abbrev pub invariant-loop-edge : goal.invariant-loop-edge
invariant-loop-edge l = record {
  kept : l.levels.kept ≡ l.fn.levels.kept;
  front : l.levels.front ≡ l.fn.levels.front;
  done : l.levels.done ≡ l.fn.levels.done;
  same : StaysSame l.fn.levels l.levels;
  next : length l.levels.next.states ≡ length l.fn.levels.kept;
  given : (p : Program) (s : State) → Tells p l.graph.parts → at l.fn.levels.kept l.a ≡ Some s → AreLeast l.fn.levels.kept l.levels.next (WithEdges (IsGiven p (at l.fn.levels.kept) (take l.i l.fn.levels.front)) p s (moved_at p l.a s) (take l.edge-index l.edge-items));
}

abbrev pub invariant-loop-restore : goal.invariant-loop-restore
invariant-loop-restore l = record {
  kept : l.levels.kept ≡ l.fn.levels.kept;
  front : l.levels.front ≡ l.fn.levels.front;
  done : l.levels.done ≡ l.fn.levels.done;
  same : StaysSame l.fn.levels l.levels;
  next : length l.levels.next.states ≡ length l.fn.levels.kept;
  given : (p : Program) (s : State) → Tells p l.graph.parts → at l.fn.levels.kept l.a ≡ Some s → AreLeast l.fn.levels.kept l.levels.next (WithRestores (WithEdges (IsGiven p (at l.fn.levels.kept) (take l.i l.fn.levels.front)) p s (moved_at p l.a s) (edges_of p l.a)) p s (take l.restore-index l.restore-items));
}
