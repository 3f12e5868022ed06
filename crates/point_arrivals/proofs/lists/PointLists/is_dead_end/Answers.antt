use Rattle.std.proofs.Common.{◌≡◌, ap, ◌∙◌}
use Rattle.flow_defs.specs.Coded.{Coded}
use Rattle.special_sections.specs.Special.{special_of}
use Rattle.alternatives.specs.declared.point.Point.{Point}
use Rattle.flow_defs.specs.Arrival.{ends_at, is_padding}
use Rattle.flow_defs.specs.Code.{point_at}
use Rattle.object_points.specs.Places.{is_among}
use Rattle.point_arrivals.proofs.Ending.{other_passes, padding_passes, unless_reached}
use Rattle.point_arrivals.proofs.lists.PointLists.is_dead_end.Goals as goal

pub returns-then-not-may_end : goal.returns-then-not-may_end
returns-then-not-may_end c = other_passes c.args.self.now (point_at c.args.self.now c.args.n) c.may_end.result c.may_end.ensures c.if-not-may_end.true

pub returns-then-is_padding : goal.returns-then-is_padding
returns-then-is_padding c =
    let o : Coded = c.args.self.now in
    let p : Point = point_at o c.args.n in
    let padding : c.is_padding.result ≡ is_padding o p = c.is_padding.ensures ∙ ap (λ (e : Coded). is_padding e (point_at e c.args.n)) c.self.view_is in
    padding_passes o p c.is_padding.result padding c.if-is_padding.true

pub returns : goal.returns
returns c =
    let o : Coded = c.args.self.now in
    let own : Coded = c.self.inside.places in
    let p : Point = point_at o c.args.n in
    let padding : c.is_padding.result ≡ is_padding o p = c.is_padding.ensures ∙ ap (λ (e : Coded). is_padding e (point_at e c.args.n)) c.self.view_is in
    let reached : c.contains.result ≡ ends_at o p (special_of o.elf).after_reachable =
    c.contains.ensures
    ∙ c.self.invariant.1.reachable_places.same c.end_of-end.result
    ∙ ap (is_among (special_of own.elf).after_reachable) c.end_of-end.ensures
    ∙ ap (λ (e : Coded). ends_at e (point_at e c.args.n) (special_of e.elf).after_reachable) c.self.view_is in
    unless_reached o p c.may_end.result c.is_padding.result c.contains.result c.may_end.ensures c.if-not-may_end.false padding c.if-is_padding.false reached
