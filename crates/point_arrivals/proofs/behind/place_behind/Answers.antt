use Rattle.std.proofs.Common.{◌≡◌, length, ap, ◌∙◌, arith}
use Rattle.flow_defs.specs.Coded.{Coded}
use Rattle.special_sections.specs.Special.{special_of}
use Rattle.alternatives.specs.declared.point.Point.{Point}
use Rattle.alternatives.proofs.Opened.{variant_inside}
use Rattle.flow_defs.specs.Code.{alternatives_of, point_at, texts_of}
use Rattle.object_points.proofs.Points.{numbered_point}
use Rattle.point_arrivals.proofs.behind.place_behind.Goals as goal

pub bounds-alternatives-point : goal.bounds-alternatives-point
bounds-alternatives-point c =
    let o : Coded = c.args.places.now in
    let all : c.alternatives.result.now ≡ alternatives_of o = c.alternatives.ensures ∙ ap (λ s. s.alternatives) (c.special.ensures ∙ ap (λ (e : Coded). special_of e.elf) c.linked.ensures) in
    let known = variant_inside (texts_of o) (alternatives_of o) (point_at o c.args.n) (numbered_point o c.args.n c.requires.point) in
    omega (arith, known, ap (λ (q : Point). q.variant) c.point-point.ensures, ap length all, c.if-point-eq0.false)
