use Rattle.std.proofs.Common.{◌≡◌, ◌-◌, ◌<◌, ◌≤◌, ℕ, true, length}
use Rattle.std.specs.Prelude.{slice_index_or}
use Rattle.return_search.specs.declared.searched_flow.Exit.TheVariants.{Passes}
use Rattle.return_search.specs.Search.{target_returns}
use Rattle.return_search.proofs.kept_edges.end_of_returning.Given as goal

abbrev pub invariant-returning : goal.invariant-returning
invariant-returning l = record {
  from : l.from ≤ l.q;
  within : l.q ≤ length l.exits;
  returning : (k : ℕ) → l.from ≤ k → k < l.q → target_returns l.known (slice_index_or l.exits k Passes) ≡ true;
}

abbrev pub decreases-returning : goal.decreases-returning
decreases-returning l = length l.exits - l.q
