-- The edges so far are noted.
use Rattle.std.proofs.Common.{◌≡◌, ◌<◌, ℕ, length, slice_index_or}
use Rattle.machine_defs.specs.declared.flow.Edge.{Edge}
use Rattle.machine_defs.specs.Program.{Program}
use Rattle.kept_states.specs.LevelStates.{at}
use Rattle.state_ways.specs.Clashes.{EdgeIsNoted, IsMoreNoted}
use Rattle.state_ways.specs.Marks.{IsTold}
use Rattle.state_ways.proofs.clashes.note_point.Given as goal

abbrev pub invariant-loop-edge : goal.invariant-loop-edge
invariant-loop-edge l = record {
  len : length l.clashes.items ≡ length l.fn.clashes.items;
  more : IsMoreNoted l.graph.parts (at l.kept) l.warnings l.fn.clashes.items l.clashes.items;
  noted : (k : ℕ) (d : Edge) → k < l.edge-index → (p : Program) → IsTold p l.graph.parts (at l.kept) → EdgeIsNoted p l.warnings l.clashes.items l.from (slice_index_or l.edge-items k d);
}
