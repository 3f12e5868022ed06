use Rattle.std.proofs.Common.{ℕ, ◌<◌, ◌≤◌, List, All, length, get_or, subst, sym}
use Rattle.alternatives.specs.declared.original.Original.{Original}
use Rattle.alternatives.specs.declared.site.AlternativesSite.{AlternativesSite}
use Rattle.alternatives.specs.Sites.{EndsBefore}
use Rattle.alternatives.specs.Sorted.{GroupsOf}
use Rattle.alternatives.proofs.Groups.{more_groups, more_behind}
use Rattle.alternatives.proofs.site.group_sites.Goals as goal

none : Original
none = record { place = record { sec = 0; off = 0 }; len = 0; entry = 0 }

pub loop-first-preserved : goal.loop-first-preserved
unfolding none
loop-first-preserved c =
    let os : List Original = c.args.originals.now in
    let e = c.end_of_site-end.ensures in
    let first : ℕ = c.loop-first.first in
    let end : ℕ = c.end_of_site-end.result in
    let at : first < length os = c.loop-first-test.true in
    let sites : List AlternativesSite = c.loop-first.sites.items in
    let groups = more_groups os c.requires.sorted c.requires.apart c.requires.some first end at e.behind e.within e.alike e.other none sites c.loop-first.invariant.groups c.loop-first.invariant.behind in
    let behind = more_behind os c.requires.sorted c.requires.apart c.requires.some first end at e.behind e.within e.alike e.other none sites c.loop-first.invariant.groups c.loop-first.invariant.behind in
    record {
      inside = e.within;
      groups = subst (λ s. GroupsOf os s end) (sym c.in_ok-push.ensures.items) groups;
      behind = subst (λ s. All (λ (s : AlternativesSite). (k : ℕ) (d : Original) → end ≤ k → k < length os → EndsBefore s.start s.len (get_or os k d).place) s) (sym c.in_ok-push.ensures.items) behind;
    }
