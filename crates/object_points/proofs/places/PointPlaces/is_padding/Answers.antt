use Rattle.std.proofs.Common.{◌≡◌, ◌+◌, ◌<◌, List, length, sym, ap, ◌∙◌, arith}
use Rattle.std.specs.Prelude.{nat_le}
use Rattle.flow_defs.specs.Coded.{Coded}
use Rattle.special_sections.specs.declared.entries.AltEntry.{AltEntry}
use Rattle.special_sections.specs.Special.{special_of}
use Rattle.alternatives.specs.declared.point.Point.{Point}
use Rattle.alternatives.specs.Points.{entry_of}
use Rattle.alternatives.proofs.Opened.{variant_inside}
use Rattle.flow_defs.specs.Code.{alternatives_of, point_at, texts_of}
use Rattle.object_points.proofs.Points.{is_replaced, numbered_point, replaced_padding}
use Rattle.object_points.proofs.places.PointPlaces.is_padding.Goals as goal

pub bounds-alternatives-point : goal.bounds-alternatives-point
bounds-alternatives-point c =
    let o : Coded = c.args.self.now in
    let all : c.alternatives.result.now ≡ alternatives_of o = c.alternatives.ensures ∙ ap (λ s. s.alternatives) (c.special.ensures ∙ ap (λ (e : Coded). special_of e.elf) c.self.view_is) in
    let known = variant_inside (texts_of o) (alternatives_of o) (point_at o c.args.n) (numbered_point o c.args.n c.requires) in
    omega (arith, known, ap (λ (q : Point). q.variant) c.point-point.ensures, ap length all, c.if-point-eq0.false)

pub returns : goal.returns
returns c =
    let o : Coded = c.args.self.now in
    let p : Point = c.point-point.result in
    let all : c.alternatives.result.now ≡ alternatives_of o = c.alternatives.ensures ∙ ap (λ s. s.alternatives) (c.special.ensures ∙ ap (λ (e : Coded). special_of e.elf) c.self.view_is) in
    let some : 0 < p.variant = omega (arith, c.if-point-eq0.false) in
    c.is_behind.ensures
    ∙ ap (λ (list : List AltEntry). nat_le ((entry_of list p.variant).replacement.off + (entry_of list p.variant).replacement_len) p.place.off) all
    ∙ ap (λ (q : Point). nat_le ((entry_of (alternatives_of o) q.variant).replacement.off + (entry_of (alternatives_of o) q.variant).replacement_len) q.place.off) c.point-point.ensures
    ∙ sym (replaced_padding (texts_of o) (alternatives_of o) (point_at o c.args.n) (numbered_point o c.args.n c.requires) (is_replaced p.variant (point_at o c.args.n).variant (ap (λ (q : Point). q.variant) c.point-point.ensures) some))
