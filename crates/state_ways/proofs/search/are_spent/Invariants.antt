-- The ends of the edges so far have ways.
use Rattle.std.proofs.Common.{◌<◌, ℕ, IsSome, slice_index_or}
use Rattle.machine_defs.specs.declared.flow.Edge.{Edge}
use Rattle.kept_states.specs.LevelStates.{at}
use Rattle.state_ways.specs.Marks.{IsMarked}
use Rattle.state_ways.proofs.search.are_spent.Given as goal

abbrev pub invariant-loop-edge : goal.invariant-loop-edge
invariant-loop-edge l = (k : ℕ) (d : Edge) → k < l.edge-index → IsSome (at l.kept (slice_index_or l.edges k d).to) → IsMarked l.ways (slice_index_or l.edges k d).to
