use Rattle.std.proofs.Common.{◌≡◌, ◌*◌, ◌≤◌, length, filter}
use Rattle.std.specs.List.{range_with_len, flat_map}
use Rattle.alternatives.specs.Gathered.{replaced_of}
use Rattle.alternatives.specs.Originals.{counts, entry_at}
use Rattle.alternatives.proofs.points.gather_replaced.Given as goal

abbrev pub invariant-loop-entry : goal.invariant-loop-entry
invariant-loop-entry l = (l.points.items ≡ flat_map (replaced_of l.texts l.entries) (filter (λ k. counts (entry_at l.entries k)) (range_with_len 0 l.entry))) × (length l.points.items ≤ 256 * l.entry)
