use Rattle.std.proofs.Common.{sym}
use Rattle.object_points.proofs.place_set.PlaceSet.contains.Goals as goal

pub returns-then-not-may_contain : goal.returns-then-not-may_contain
returns-then-not-may_contain c = sym (c.may_contain.ensures c.if-not-may_contain.true)
