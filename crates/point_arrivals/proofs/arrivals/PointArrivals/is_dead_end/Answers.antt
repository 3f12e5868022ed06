use Rattle.std.proofs.Common.{◌≡◌, ℕ, false, sym, ap, ◌∙◌}
use Rattle.flow_defs.specs.Coded.{Coded}
use Rattle.flow_defs.specs.Code.{point_at}
use Rattle.point_arrivals.specs.Kinds.{is_listed_kind}
use Rattle.point_arrivals.specs.Marks.{is_listed}
use Rattle.point_arrivals.proofs.KindOf.{listed_kind}
use Rattle.point_arrivals.proofs.StraightOn.{unlisted}
use Rattle.point_arrivals.proofs.arrivals.PointArrivals.is_dead_end.Goals as goal

pub returns-then-not-is_listed : goal.returns-then-not-is_listed
returns-then-not-is_listed c =
    let o : Coded = c.args.self.now in
    let n : ℕ = c.args.n in
    let none : is_listed o (point_at o n) ≡ false = sym (c.is_listed.ensures ∙ ap is_listed_kind c.kind.ensures ∙ listed_kind o n) ∙ c.if-not-is_listed.true in
    (unlisted o (point_at o n) none).2
