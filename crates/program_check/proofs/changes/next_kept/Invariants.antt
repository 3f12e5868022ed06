-- The points so far keep none.
use Rattle.std.proofs.Common.{◌≡◌, ◌≤◌, ◌<◌, ℕ, None}
use Rattle.kept_states.specs.LevelStates.{at}
use Rattle.program_check.proofs.changes.next_kept.Given as goal

abbrev pub invariant-loop-n : goal.invariant-loop-n
invariant-loop-n l = (k : ℕ) → l.from ≤ k → k < l.n → at l.kept k ≡ None
