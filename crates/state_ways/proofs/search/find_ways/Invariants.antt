-- The ways to the points of some level are noted, and its points are listed.
use Rattle.std.proofs.Common.{◌≡◌, ◌+◌, ℕ, length}
use Rattle.std.specs.Prelude.{sum_by}
use Rattle.machine_defs.specs.Program.{Program}
use Rattle.kept_states.specs.LevelStates.{at}
use Rattle.state_ways.specs.Marks.{AreFresh, AreShown, AreSpent, IsLevel, IsTold, is_open}
use Rattle.state_ways.proofs.search.find_ways.Given as goal

abbrev pub invariant-loop-alloc : goal.invariant-loop-alloc
invariant-loop-alloc l = record {
  points : length l.search.ways ≡ length l.graph.parts.points.items;
  room : length l.search.spent.items ≡ length l.graph.parts.points.items;
  shown : AreShown l.search.ways l.search.next.items;
  level : (p : Program) → IsTold p l.graph.parts (at l.kept) → (level : ℕ) × IsLevel p level l.search.ways l.search.next.items × AreFresh p level l.search.next.items;
  spent : (p : Program) → IsTold p l.graph.parts (at l.kept) → AreSpent p (at l.kept) l.search.ways l.search.spent.items;
}

abbrev pub decreases-loop-alloc : goal.decreases-loop-alloc
decreases-loop-alloc l = sum_by is_open l.search.ways + length l.search.next.items
