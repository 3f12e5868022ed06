use Rattle.std.proofs.Common.{◌≡◌, List, Some, refl, ap, ◌∙◌, subst}
use Rattle.std.specs.Prelude.{slice_get}
use Rattle.alternatives.specs.Texts.{is_boundary}
use Rattle.flow_defs.specs.Coded.{Coded}
use Rattle.alternatives.specs.declared.point.Point.{Point}
use Rattle.alternatives.specs.Points.{points_of}
use Rattle.flow_defs.specs.Code.{alternatives_of, plain_point, points_of_object, texts_of}
use Rattle.object_points.proofs.Points.{known_point}
use Rattle.object_points.proofs.places.PointPlaces.is_boundary_by_guess.Goals as goal

all_points : (o : Coded) → points_of_object o ≡ points_of (texts_of o) (alternatives_of o)
unfolding points_of_object
all_points o = refl

pub returns-in-Some : goal.returns-in-Some
returns-in-Some c =
    let own : Coded = c.self.inside.linked.now in
    let point : Point = plain_point c.args.place in
    let points : c.sites.result.now.points ≡ points_of (texts_of own) (alternatives_of own) = c.sites.ensures.points ∙ all_points own in
    let here : slice_get (points_of (texts_of own) (alternatives_of own)) c.in-Some.field-0 ≡ Some point = subst (λ (ps : List Point). slice_get ps c.in-Some.field-0 ≡ Some point) points c.in-Some.ensures in
    known_point (texts_of own) (alternatives_of own) point (Some c.in-Some.field-0) here
    ∙ ap (λ (e : Coded). is_boundary (texts_of e) c.args.place) c.self.view_is
