use Rattle.std.proofs.Common.{◌≡◌, length}
use Rattle.machine_defs.specs.Program.{Program}
use Rattle.program_graph.specs.Tells.{Tells}
use Rattle.kept_states.specs.Passages.{AreLinked, AreToldBelow}
use Rattle.kept_states.proofs.runs.tell_run.Given as goal

abbrev pub invariant-loop-n : goal.invariant-loop-n
invariant-loop-n l = record {
  passages : length l.passages.items ≡ length l.fn.passages.items;
  told : (p : Program) → Tells p l.graph.parts → AreToldBelow p l.fn.passages.items l.from → AreToldBelow p l.passages.items l.n;
  linked : AreLinked l.fn.passages.items l.from → AreLinked l.passages.items l.n;
}
