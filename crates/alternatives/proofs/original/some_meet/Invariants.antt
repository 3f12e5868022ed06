use Rattle.std.proofs.Common.{◌≡◌, ℕ, ◌+◌, ◌<◌, false, get_or}
use Rattle.alternatives.specs.declared.original.Original.{Original}
use Rattle.alternatives.specs.Sorted.{meets}
use Rattle.alternatives.proofs.original.some_meet.Given as goal

abbrev pub invariant-loop-i : goal.invariant-loop-i
invariant-loop-i l = (k : ℕ) (d : Original) → k + 1 < l.i → meets (get_or l.originals k d) (get_or l.originals (k + 1) d) ≡ false
