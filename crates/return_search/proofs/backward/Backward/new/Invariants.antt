use Rattle.std.proofs.Common.{◌-◌, ◌≤◌}
use Rattle.return_search.specs.Told.{start_of}
use Rattle.return_search.specs.Shape.{points_of}
use Rattle.return_search.specs.Backward.{IsBackwardTo}
use Rattle.return_search.specs.Search.{IsSearchTo}
use Rattle.return_search.proofs.backward.Backward.new.Given as goal

abbrev pub invariant-points : goal.invariant-points
invariant-points l = record {
  within : l.at ≤ points_of l.flow;
  backward : IsBackwardTo l.flow l.backward l.at (start_of l.flow l.at);
  search : IsSearchTo l.flow l.search l.at;
}

abbrev pub decreases-points : goal.decreases-points
decreases-points l = points_of l.flow - l.at
