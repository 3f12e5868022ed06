use Rattle.std.proofs.Common.{◌≡◌, ℕ, ◌<◌, get_or, length}
use Rattle.kept_states.proofs.levels.clear_places.Given as goal

abbrev pub invariant-loop-n : goal.invariant-loop-n
invariant-loop-n l = record {
  len : length l.places.items ≡ length l.fn.places.items;
  clear : (k : ℕ) → k < l.n → get_or l.places.items k 0 ≡ 4294967295;
}
