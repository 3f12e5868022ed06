use Rattle.std.proofs.Common.{◌≡◌, ℕ, ◌<◌, ◌≤◌, true, get_or}
use Rattle.std.specs.Prelude.{slice_range}
use Rattle.ot_base.specs.Places.{is_before}
use Rattle.machine_defs.specs.Program.{Program}
use Rattle.program_graph.specs.Tells.{Tells}
use Rattle.kept_states.specs.LevelStates.{at}
use Rattle.program_check.specs.Changes.{add_all, rows_in_sites}
use Rattle.program_check.proofs.changes.push_before.Given as goal

abbrev pub invariant-loop-end : goal.invariant-loop-end
invariant-loop-end l = record {
  pushed : (p : Program) → Tells p l.graph.parts → l.rows.items ≡ add_all l.initial.rows.items (rows_in_sites p (at l.kept) (slice_range l.more l.from l.end));
  before : (p : Program) → Tells p l.graph.parts → (k d : ℕ) → l.from ≤ k → k < l.end → is_before (p.address (get_or l.more k d)) l.place ≡ true;
}
