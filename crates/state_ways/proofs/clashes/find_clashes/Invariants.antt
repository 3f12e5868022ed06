-- The points so far are noted.
use Rattle.std.proofs.Common.{◌≡◌, ◌<◌, ℕ, length}
use Rattle.machine_defs.specs.Program.{Program}
use Rattle.kept_states.specs.LevelStates.{at}
use Rattle.state_ways.specs.Clashes.{AreSound, PointIsNoted}
use Rattle.state_ways.specs.Marks.{IsTold}
use Rattle.state_ways.proofs.clashes.find_clashes.Given as goal

abbrev pub invariant-loop-n : goal.invariant-loop-n
invariant-loop-n l = record {
  len : length l.clashes.items ≡ length l.warnings;
  sound : (p : Program) → IsTold p l.graph.parts (at l.kept) → AreSound p l.warnings l.clashes.items;
  noted : (q : ℕ) → q < l.n → (p : Program) → IsTold p l.graph.parts (at l.kept) → PointIsNoted p l.warnings l.clashes.items q;
}
