-- The points so far keep the same state.
use Rattle.std.proofs.Common.{◌≡◌, ◌≤◌, ◌<◌, ℕ}
use Rattle.kept_states.specs.LevelStates.{at}
use Rattle.program_check.proofs.changes.next_unlike.Given as goal

abbrev pub invariant-loop-n : goal.invariant-loop-n
invariant-loop-n l = (k : ℕ) → l.from ≤ k → k < l.n → at l.kept l.held ≡ at l.kept k
