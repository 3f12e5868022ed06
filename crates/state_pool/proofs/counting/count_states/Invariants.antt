use Rattle.std.proofs.Common.{◌+◌, ◌≤◌}
use Rattle.state_pool.specs.Counted.{AreNumbered}
use Rattle.state_pool.proofs.counting.count_states.Given as goal

abbrev pub invariant-loop-n : goal.invariant-loop-n
invariant-loop-n l = record {
  room : l.points ≤ l.pool.spare + l.n;
  numbered : AreNumbered l.kept l.n l.pool.states;
}
