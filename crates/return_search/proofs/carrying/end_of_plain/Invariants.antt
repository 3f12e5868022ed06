use Rattle.std.proofs.Common.{◌≡◌, ◌-◌, ◌<◌, ◌≤◌, ℕ}
use Rattle.return_search.specs.Told.{start_of}
use Rattle.return_search.specs.Shape.{points_of}
use Rattle.return_search.specs.Backward.{IsPlain}
use Rattle.return_search.proofs.carrying.end_of_plain.Given as goal

abbrev pub invariant-plain : goal.invariant-plain
invariant-plain l = record {
  from : l.from ≤ l.q;
  within : l.q ≤ points_of l.flow;
  first : l.first ≡ start_of l.flow l.q;
  plain : (q : ℕ) → l.from ≤ q → q < l.q → IsPlain l.flow q;
}

abbrev pub decreases-plain : goal.decreases-plain
decreases-plain l = points_of l.flow - l.q
