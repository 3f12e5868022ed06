use Rattle.std.proofs.Common.{◌≡◌, length}
use Rattle.machine_defs.specs.Program.{Program}
use Rattle.program_graph.specs.Tells.{Tells}
use Rattle.kept_states.specs.LevelStates.{StaysSame}
use Rattle.kept_states.specs.Told.{HaveGiven}
use Rattle.kept_states.proofs.spreading.give_all.Given as goal

abbrev pub invariant-loop-i : goal.invariant-loop-i
invariant-loop-i l = record {
  kept : l.levels.kept ≡ l.fn.levels.kept;
  front : l.levels.front ≡ l.fn.levels.front;
  done : l.levels.done ≡ l.fn.levels.done;
  same : StaysSame l.fn.levels l.levels;
  next : length l.levels.next.states ≡ length l.fn.levels.kept;
  given : (p : Program) → Tells p l.graph.parts → HaveGiven p l.levels l.i;
}
