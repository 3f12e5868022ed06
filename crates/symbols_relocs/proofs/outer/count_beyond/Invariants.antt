use Rattle.std.proofs.Common.{◌≡◌, ℕ, ◌<◌, ◌≤◌, false}
use Rattle.symbols_relocs.specs.Lists.{ends_beyond, function}
use Rattle.symbols_relocs.proofs.outer.count_beyond.Given as goal

abbrev pub invariant-loop-left : goal.invariant-loop-left
invariant-loop-left l = (l.left ≤ l.count) × ((j : ℕ) → l.left ≤ j → j < l.count → ends_beyond (function l.functions j) l.sec l.off ≡ false)

abbrev pub decreases-loop-left : goal.decreases-loop-left
decreases-loop-left l = l.left
