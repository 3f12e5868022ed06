use Rattle.std.proofs.Common.{◌≡◌, take}
use Rattle.machine_defs.specs.Program.{Program}
use Rattle.program_graph.specs.Tells.{Tells}
use Rattle.kept_states.specs.LevelStates.{at}
use Rattle.program_check.specs.Changes.{add_all, rows_in_sites}
use Rattle.program_check.proofs.changes.push_all.Given as goal

abbrev pub invariant-loop-n : goal.invariant-loop-n
invariant-loop-n l = record {
  pushed : (p : Program) → Tells p l.graph.parts → l.rows.items ≡ add_all l.initial.rows.items (rows_in_sites p (at l.kept) (take l.n-index l.more));
}
