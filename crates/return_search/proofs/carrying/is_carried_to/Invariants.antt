use Rattle.std.proofs.Common.{◌≡◌, ℕ, ◌<◌, true}
use Rattle.return_search.specs.Backward.{IsEdgeOf, edge_at}
use Rattle.return_search.specs.Search.{carries, is_set}
use Rattle.return_search.proofs.carrying.is_carried_to.Given as goal

abbrev pub invariant-loop-i : goal.invariant-loop-i
invariant-loop-i l = (j : ℕ) → IsEdgeOf l.flow l.q j → j < l.i → is_set l.search.found.items (edge_at l.flow j).to ≡ true → carries l.flow l.search.known.items l.q (edge_at l.flow j).kind ≡ true → ⊥
