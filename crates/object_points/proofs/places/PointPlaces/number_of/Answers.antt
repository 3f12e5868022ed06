use Rattle.std.proofs.Common.{◌≡◌, sym, ap, ◌∙◌, subst}
use Rattle.std.specs.Prelude.{position}
use Rattle.std.specs.List.Sorted.{IsStrictlySortedBy}
use Rattle.flow_defs.specs.Coded.{Coded}
use Rattle.alternatives.specs.Points.{point_cmp}
use Rattle.flow_defs.specs.Code.{alternatives_of, points_of_object, same_point, texts_of}
use Rattle.object_points.proofs.TextsLemmas.{texts_ascend}
use Rattle.object_points.proofs.Numbers.{all_sorted, numbered}
use Rattle.object_points.proofs.places.PointPlaces.number_of.Goals as goal

sorted_object : (o : Coded) → IsStrictlySortedBy point_cmp (points_of_object o)
unfolding points_of_object
sorted_object o = all_sorted (texts_of o) (alternatives_of o) (texts_ascend o)

pub returns : goal.returns
returns c =
    let own : Coded = c.self.inside.linked.now in
    let points : c.sites.result.now.points ≡ points_of_object own = c.sites.ensures.points in
    let sorted : IsStrictlySortedBy point_cmp c.sites.result.now.points = subst (IsStrictlySortedBy point_cmp) (sym points) (sorted_object own) in
    numbered c.sites.result.now.points c.args.point c.number_of.result sorted c.number_of.ensures
    ∙ ap (position (same_point c.args.point)) points
    ∙ ap (λ (e : Coded). position (same_point c.args.point) (points_of_object e)) c.self.view_is
