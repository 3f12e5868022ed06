use Rattle.std.proofs.Common.{◌≡◌, map, filter}
use Rattle.std.specs.List.{range_with_len}
use Rattle.alternatives.specs.Originals.{counts, entry_at}
use Rattle.alternatives.specs.Sorted.{original_of}
use Rattle.alternatives.proofs.original.list_originals.Given as goal

abbrev pub invariant-loop-entry : goal.invariant-loop-entry
invariant-loop-entry l = l.list.items ≡ map (original_of l.entries) (filter (λ k. counts (entry_at l.entries k)) (range_with_len 0 l.entry))
