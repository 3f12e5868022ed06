use Rattle.std.proofs.Common.{◌≡◌, ℕ, ◌<◌, ◌≤◌, true, get_or}
use Rattle.ot_base.specs.Places.{same_place}
use Rattle.alternatives.specs.declared.original.Original.{Original}
use Rattle.alternatives.proofs.site.end_of_site.Given as goal

abbrev pub invariant-loop-end : goal.invariant-loop-end
invariant-loop-end l = (k : ℕ) (d : Original) → l.first ≤ k → k < l.end → same_place (get_or l.originals k d).place (get_or l.originals l.first d).place ≡ true
