use Rattle.std.proofs.Common.{◌≡◌, false, sym, ap, ◌∙◌}
use Rattle.flow_defs.specs.Coded.{Coded}
use Rattle.special_sections.specs.Special.{special_of}
use Rattle.alternatives.specs.declared.point.Point.{Point}
use Rattle.flow_defs.specs.Arrival.{is_padding}
use Rattle.flow_defs.specs.Code.{point_at}
use Rattle.object_points.specs.Places.{targets_of}
use Rattle.point_arrivals.specs.Lists.{branch_pairs_of}
use Rattle.point_arrivals.proofs.Ending.{targets_are}
use Rattle.point_arrivals.proofs.lists.PointLists.static_targets.Goals as goal

pub returns : goal.returns
returns c =
    let o : Coded = c.args.self.now in
    let own : Coded = c.self.inside.places in
    let p : Point = c.point.result in
    let same : p ≡ point_at o c.args.n = c.point.ensures ∙ ap (λ (e : Coded). point_at e c.args.n) c.self.view_is in
    let other : is_padding o (point_at o c.args.n) ≡ false = sym (c.is_padding.ensures ∙ ap (λ (e : Coded). is_padding e (point_at e c.args.n)) c.self.view_is) ∙ c.if-is_padding.false in
    c.targets.ensures
    ∙ c.self.invariant.1.branch_targets.same p.place
    ∙ ap (λ (e : Coded). targets_of (branch_pairs_of (special_of e.elf).branches) p.place) c.self.view_is
    ∙ ap (λ (q : Point). targets_of (branch_pairs_of (special_of o.elf).branches) q.place) same
    ∙ targets_are o (point_at o c.args.n) other
