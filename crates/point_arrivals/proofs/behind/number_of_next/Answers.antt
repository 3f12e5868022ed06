use Rattle.std.proofs.Common.{◌≡◌, ℕ, ◌<◌, false, List, length, sym, ap, ◌∙◌, subst, arith}
use Rattle.flow_defs.specs.Coded.{Coded}
use Rattle.alternatives.specs.declared.point.Point.{Point}
use Rattle.flow_defs.specs.Decoded.{no_insn}
use Rattle.flow_defs.specs.Code.{is_plain, point_at, points_of_object}
use Rattle.object_points.proofs.Points.{is_replaced}
use Rattle.point_arrivals.specs.Next.{number_of_next}
use Rattle.point_arrivals.proofs.Following.{next_found}
use Rattle.point_arrivals.proofs.behind.number_of_next.Goals as goal

pub returns : goal.returns
returns c =
    let o : Coded = c.linked.result.now in
    let n : ℕ = c.args.n in
    let points : List Point = c.sites.result.now.points in
    let inside : n < length points = subst (λ (ps : List Point). n < length ps) (sym c.sites.ensures.points) (subst (λ (e : Coded). n < length (points_of_object e)) (sym c.linked.ensures) c.requires) in
    let same : c.point.result ≡ point_at o n = c.point.ensures ∙ ap (λ (e : Coded). point_at e n) (sym c.linked.ensures) in
    let some : 0 < c.point.result.variant = omega (arith, c.if-point-eq0.false) in
    let replaced : is_plain (point_at o n) ≡ false = is_replaced c.point.result.variant (point_at o n).variant (ap (λ (q : Point). q.variant) same) some in
    next_found o points c.sites.result.now.insns n no_insn c.number_behind.result c.sites.ensures.points c.sites.ensures.insns inside c.number_behind.ensures replaced
    ∙ ap (λ (e : Coded). number_of_next e (point_at e n)) c.linked.ensures
