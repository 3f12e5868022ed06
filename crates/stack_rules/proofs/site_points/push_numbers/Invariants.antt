use Rattle.std.proofs.Common.{◌≡◌, ◌++◌, map, take}
use Rattle.stack_rules.specs.declared.site_points.SitedPoint.{SitedPoint}
use Rattle.stack_rules.proofs.site_points.push_numbers.Given as goal

abbrev pub invariant-loop-sited : goal.invariant-loop-sited
invariant-loop-sited l = l.points.items ≡ l.initial.points.items ++ map (λ (x : SitedPoint). x.point) (take l.sited-index l.more)
