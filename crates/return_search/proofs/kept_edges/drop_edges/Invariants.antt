use Rattle.std.proofs.Common.{◌≡◌, ◌+◌, ◌-◌, ◌<◌, ◌≤◌, ℕ, false, true, drop, length, take}
use Rattle.std.specs.Prelude.{slice_index}
use Rattle.return_search.specs.Shape.{points_of}
use Rattle.return_search.specs.Told.{exit_at, start_of}
use Rattle.return_search.specs.Flagged.{AreFlagged}
use Rattle.return_search.specs.Search.{target_returns}
use Rattle.return_search.specs.Stays.{AreKept}
use Rattle.return_search.proofs.kept_edges.drop_edges.Given as goal

abbrev pub invariant-points : goal.invariant-points
invariant-points l = record {
  point : l.at ≤ points_of l.fn.flow;
  stops : l.at < points_of l.fn.flow → target_returns l.known (exit_at l.fn.flow l.at) ≡ false;
  flagged : AreFlagged (λ q. target_returns l.known (exit_at l.fn.flow q)) true l.comes_back.items (points_of l.fn.flow) l.at;
  kept : AreKept l.fn.flow (λ q. target_returns l.known (exit_at l.fn.flow q)) (take (l.at + 1) l.flow.starts.items) (take l.kept l.flow.edges.items) l.at;
  from : l.from ≡ start_of l.fn.flow l.at;
  within : l.kept ≤ l.from;
  rest : drop l.from l.flow.edges.items ≡ drop l.from l.fn.flow.edges.items;
  long : length l.flow.edges.items ≡ length l.fn.flow.edges.items;
  starts : (k : ℕ) → l.at < k → slice_index l.flow.starts.items k ≡ start_of l.fn.flow k;
  long_starts : length l.flow.starts.items ≡ length l.fn.flow.starts.items;
  exits : l.flow.exits ≡ l.fn.flow.exits;
  dead_ends : l.flow.dead_ends ≡ l.fn.flow.dead_ends;
  entered : l.flow.entered ≡ l.fn.flow.entered;
}

abbrev pub decreases-points : goal.decreases-points
decreases-points l = points_of l.fn.flow - l.at
