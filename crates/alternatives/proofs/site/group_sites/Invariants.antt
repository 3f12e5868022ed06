use Rattle.std.proofs.Common.{ℕ, ◌-◌, ◌<◌, ◌≤◌, All, length, get_or}
use Rattle.alternatives.specs.declared.original.Original.{Original}
use Rattle.alternatives.specs.Sites.{EndsBefore}
use Rattle.alternatives.specs.Sorted.{GroupsOf}
use Rattle.alternatives.proofs.site.group_sites.Given as goal

abbrev pub invariant-loop-first : goal.invariant-loop-first
invariant-loop-first l = record {
  inside : l.first ≤ length l.originals;
  groups : GroupsOf l.originals l.sites.items l.first;
  behind : All (λ s. (k : ℕ) (d : Original) → l.first ≤ k → k < length l.originals → EndsBefore s.start s.len (get_or l.originals k d).place) l.sites.items;
}

abbrev pub decreases-loop-first : goal.decreases-loop-first
decreases-loop-first l = length l.originals - l.first
