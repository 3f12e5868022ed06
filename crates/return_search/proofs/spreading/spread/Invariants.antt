use Rattle.std.proofs.Common.{◌+◌, ◌-◌, length}
use Rattle.std.specs.Prelude.{count_by}
use Rattle.return_search.specs.Shape.{points_of}
use Rattle.return_search.specs.Search.{IsSearchTo}
use Rattle.return_search.proofs.spreading.spread.Given as goal

abbrev pub invariant-waiting : goal.invariant-waiting
invariant-waiting l = IsSearchTo l.flow l.search (points_of l.flow)

-- twice the points that aren't found, and those that are listed
abbrev pub decreases-waiting : goal.decreases-waiting
decreases-waiting l = points_of l.flow - count_by (λ b. b) l.search.found.items + (points_of l.flow - count_by (λ b. b) l.search.found.items) + length l.search.waiting.items
