use Rattle.std.proofs.Common.{◌≡◌, not, ◌&&◌, sym, ap, ◌∙◌}
use Rattle.flow_defs.specs.Coded.{Coded}
use Rattle.special_sections.specs.Special.{special_of}
use Rattle.alternatives.specs.declared.point.Point.{Point}
use Rattle.flow_defs.specs.Arrival.{around, is_padding}
use Rattle.flow_defs.specs.Code.{point_at}
use Rattle.object_points.specs.Places.{is_among}
use Rattle.point_arrivals.proofs.lists.PointLists.is_intra_call.Goals as goal

pub returns-then-not-is_padding : goal.returns-then-not-is_padding
unfolding around
returns-then-not-is_padding c =
    let o : Coded = c.args.self.now in
    let p : Point = point_at o c.args.n in
    let padding : c.is_padding.result ≡ is_padding o p = c.is_padding.ensures ∙ ap (λ (e : Coded). is_padding e (point_at e c.args.n)) c.self.view_is in
    let point : c.point.result ≡ p = c.point.ensures ∙ ap (λ (e : Coded). point_at e c.args.n) c.self.view_is in
    c.contains.ensures
    ∙ c.self.invariant.1.intra_call_places.same c.point.result.place
    ∙ ap (λ (e : Coded). is_among (special_of e.elf).intra_calls c.point.result.place) c.self.view_is
    ∙ ap (λ (q : Point). is_among (special_of o.elf).intra_calls q.place) point
    ∙ ap (λ b. not b && is_among (special_of o.elf).intra_calls p.place) (sym (sym padding ∙ c.if-not-is_padding.true))

pub returns-else-not-is_padding : goal.returns-else-not-is_padding
unfolding around
returns-else-not-is_padding c =
    let o : Coded = c.args.self.now in
    let p : Point = point_at o c.args.n in
    let padding : c.is_padding.result ≡ is_padding o p = c.is_padding.ensures ∙ ap (λ (e : Coded). is_padding e (point_at e c.args.n)) c.self.view_is in
    ap not c.if-not-is_padding.false ∙ ap (λ b. not b && is_among (special_of o.elf).intra_calls p.place) (sym (sym padding ∙ c.if-not-is_padding.false))
