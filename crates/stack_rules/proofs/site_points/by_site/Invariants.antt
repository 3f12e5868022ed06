use Rattle.std.proofs.Common.{◌++◌, map, take}
use Rattle.std.specs.List.Sorted.{IsPermutation}
use Rattle.stack_rules.specs.declared.site_points.SitedPoint.{SitedPoint}
use Rattle.stack_rules.proofs.site_points.by_site.Given as goal

abbrev pub invariant-loop-n : goal.invariant-loop-n
invariant-loop-n l = IsPermutation (take l.n-index l.points) (l.new.items ++ map (λ (x : SitedPoint). x.point) l.replaced.items)
