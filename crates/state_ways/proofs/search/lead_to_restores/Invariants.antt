-- The RESTOREs so far have ways.
use Rattle.std.proofs.Common.{◌≡◌, ◌<◌, ℕ, List, Contains, IsSome, slice_index_or}
use Rattle.kept_states.specs.LevelStates.{at}
use Rattle.state_ways.specs.Marks.{GoesOn, IsMarked}
use Rattle.state_ways.proofs.search.lead_to_restores.Given as goal

abbrev pub invariant-loop-restore : goal.invariant-loop-restore
invariant-loop-restore l = record {
  on : (front : List ℕ) → Contains front l.from → GoesOn l.graph.parts (at l.kept) front l.fn.search.ways l.fn.search.next.items l.search.ways l.search.next.items;
  led : (k d : ℕ) → k < l.restore-index → IsSome (at l.kept (slice_index_or l.restore-items k d)) → IsMarked l.search.ways (slice_index_or l.restore-items k d);
  spent : l.search.spent ≡ l.fn.search.spent;
}
