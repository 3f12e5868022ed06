use Rattle.std.proofs.Common.{◌≡◌, ◌+◌, ◌<◌, ◌≤◌, ℕ, length}
use Rattle.std.specs.Prelude.{slice_index}
use Rattle.return_search.proofs.kept_edges.lessen_each.Given as goal

abbrev pub invariant-loop-k : goal.invariant-loop-k
invariant-loop-k l = record {
  less : (k : ℕ) → l.from ≤ k → k < l.k → slice_index l.numbers k + l.by ≡ slice_index l.fn.numbers k;
  before : (k : ℕ) → k < l.from → slice_index l.numbers k ≡ slice_index l.fn.numbers k;
  behind : (k : ℕ) → l.k ≤ k → slice_index l.numbers k ≡ slice_index l.fn.numbers k;
  long : length l.numbers ≡ length l.fn.numbers;
}
