use Rattle.std.proofs.Common.{◌≡◌, ◌+◌, ◌-◌, ℕ, List, length, sym, ap, subst, arith}
use Rattle.flow_defs.specs.Coded.{Coded}
use Rattle.flow_defs.specs.Code.{points_of_object}
use Rattle.point_arrivals.specs.Kinds.{AreKinds}
use Rattle.point_arrivals.specs.declared.kind.Kind.{Kind}
use Rattle.point_arrivals.proofs.KindOf.{one_more}
use Rattle.point_arrivals.proofs.kinds.list_kinds.Goals as goal

pub returns : goal.returns
returns c =
    let o : Coded = c.args.lists.now in
    let last : ℕ = c.count_points-count.result - 1 in
    let all : last + 1 ≡ length (points_of_object o) = omega (arith, c.if-count-eq0.false, c.count_points-count.ensures, ap (λ (e : Coded). length (points_of_object e)) c.places.ensures) in
    subst (AreKinds o c.push_reserved.new.self.items) all
    (subst (λ (kinds : List Kind). AreKinds o kinds (last + 1)) (sym {A = List Kind} c.push_reserved.ensures.items)
    (one_more o c.list_before.new.kinds.items last c.look_up_kind.result c.list_before.ensures.kinds c.look_up_kind.ensures))
