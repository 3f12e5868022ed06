use Rattle.std.proofs.Common.{ap, ◌∙◌}
use Rattle.flow_defs.specs.Coded.{Coded}
use Rattle.special_sections.specs.Special.{special_of}
use Rattle.flow_defs.specs.Arrival.{ends_at}
use Rattle.flow_defs.specs.Code.{point_at}
use Rattle.object_points.specs.Places.{is_among}
use Rattle.point_arrivals.proofs.lists.PointLists.ends_at_reachable.Goals as goal

pub returns : goal.returns
returns c =
    let own : Coded = c.self.inside.places in
    c.contains.ensures
    ∙ c.self.invariant.1.reachable_places.same c.end_of-end.result
    ∙ ap (is_among (special_of own.elf).after_reachable) c.end_of-end.ensures
    ∙ ap (λ (e : Coded). ends_at e (point_at e c.args.n) (special_of e.elf).after_reachable) c.self.view_is
