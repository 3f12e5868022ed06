use Rattle.std.proofs.Common.{◌≡◌, List, Some, ap, ◌∙◌, subst}
use Rattle.std.specs.Prelude.{position, slice_get}
use Rattle.std.specs.List.Sorted.{IsStrictlySortedBy}
use Rattle.flow_defs.specs.Coded.{Coded}
use Rattle.alternatives.specs.declared.point.Point.{Point}
use Rattle.alternatives.specs.Points.{point_cmp}
use Rattle.flow_defs.specs.Code.{alternatives_of, points_of_object, same_point, texts_of}
use Rattle.object_points.proofs.TextsLemmas.{texts_ascend}
use Rattle.object_points.proofs.Numbers.{all_sorted, numbered}
use Rattle.object_points.proofs.places.PointPlaces.number_by_guess.Goals as goal

sorted_object : (o : Coded) → IsStrictlySortedBy point_cmp (points_of_object o)
unfolding points_of_object
sorted_object o = all_sorted (texts_of o) (alternatives_of o) (texts_ascend o)

pub returns-in-Some : goal.returns-in-Some
returns-in-Some c =
    let own : Coded = c.self.inside.linked.now in
    let points : c.sites.result.now.points ≡ points_of_object own = c.sites.ensures.points in
    let here : slice_get (points_of_object own) c.in-Some.n ≡ Some c.args.point = subst (λ (ps : List Point). slice_get ps c.in-Some.n ≡ Some c.args.point) points c.in-Some.ensures in
    numbered (points_of_object own) c.args.point (Some c.in-Some.n) (sorted_object own) here
    ∙ ap (λ (e : Coded). position (same_point c.args.point) (points_of_object e)) c.self.view_is
