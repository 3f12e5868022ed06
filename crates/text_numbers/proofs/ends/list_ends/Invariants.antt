use Rattle.std.proofs.Common.{◌≡◌, ℕ, ◌≤◌, length}
use Rattle.text_numbers.specs.Ends.{AreEndsFrom}
use Rattle.text_numbers.proofs.ends.list_ends.Given as goal

abbrev pub invariant-loop-block : goal.invariant-loop-block
invariant-loop-block l = (l.block ≤ l.count) × (length l.ends.items ≡ l.count) × AreEndsFrom l.table l.block l.ends.items

abbrev pub decreases-loop-block : goal.decreases-loop-block
decreases-loop-block l = l.block
