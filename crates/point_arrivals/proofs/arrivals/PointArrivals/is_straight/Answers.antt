use Rattle.std.proofs.Common.{sym, ap, ◌∙◌}
use Rattle.point_arrivals.specs.Kinds.{is_straight_kind}
use Rattle.point_arrivals.proofs.KindOf.{straight_kind}
use Rattle.point_arrivals.proofs.StraightOn.{straight_on}
use Rattle.point_arrivals.proofs.arrivals.PointArrivals.is_straight.Goals as goal

pub returns-clause-exact : goal.returns-clause-exact
returns-clause-exact c = c.is_straight.ensures ∙ ap is_straight_kind c.kind.ensures ∙ straight_kind c.args.self.now c.args.n

pub returns-clause-straight : goal.returns-clause-straight
returns-clause-straight c = λ told. straight_on c.args.self.now c.args.n (sym (c.is_straight.ensures ∙ ap is_straight_kind c.kind.ensures ∙ straight_kind c.args.self.now c.args.n) ∙ told)
