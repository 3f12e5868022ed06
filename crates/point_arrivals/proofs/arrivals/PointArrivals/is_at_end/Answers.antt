use Rattle.std.proofs.Common.{◌≡◌, ℕ, true, not, sym, ap, ◌∙◌}
use Rattle.std.specs.Cmp.{second_so}
use Rattle.flow_defs.specs.Coded.{Coded}
use Rattle.flow_defs.specs.Code.{point_at}
use Rattle.point_arrivals.specs.Kinds.{is_followed_kind}
use Rattle.point_arrivals.specs.Marks.{is_listed}
use Rattle.point_arrivals.specs.Straight.{ends_at_next}
use Rattle.point_arrivals.proofs.KindOf.{followed_kind}
use Rattle.point_arrivals.proofs.StraightOn.{followed}
use Rattle.point_arrivals.proofs.arrivals.PointArrivals.is_at_end.Goals as goal

pub returns-then-is_followed : goal.returns-then-is_followed
returns-then-is_followed c =
    let o : Coded = c.args.self.now in
    let n : ℕ = c.args.n in
    let next : ends_at_next o n ≡ true =
    second_so (not (is_listed o (point_at o n))) (ends_at_next o n) (sym (c.is_followed.ensures ∙ ap is_followed_kind c.kind.ensures ∙ followed_kind o n) ∙ c.if-is_followed.true) in
    sym (followed o n next).goes_on
