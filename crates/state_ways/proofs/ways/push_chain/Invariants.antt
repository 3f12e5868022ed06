-- The turns that are still to come, and those that are pushed.
use Rattle.std.proofs.Common.{◌≡◌, ℕ, ◌<◌, ◌++◌, Some, length, reverse, take}
use Rattle.state_ways.specs.Turns.{chain_at, chains_of, up_to}
use Rattle.state_ways.proofs.Chains.{turns_behind}
use Rattle.state_ways.proofs.ways.push_chain.Given as goal

abbrev pub invariant-loop-next : goal.invariant-loop-next
invariant-loop-next l = record {
  named : (i : ℕ) → l.next ≡ Some i → i < length l.turns;
  pushed : l.into.items ++ reverse (up_to (chains_of l.turns) l.next) ≡ l.fn.into.items ++ reverse (chain_at (chains_of l.turns) l.last);
  start : take (length l.fn.into.items) l.into.items ≡ l.fn.into.items;
}

abbrev pub decreases-loop-next : goal.decreases-loop-next
decreases-loop-next l = turns_behind l.next
