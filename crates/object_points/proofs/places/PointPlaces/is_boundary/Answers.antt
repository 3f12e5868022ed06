use Rattle.std.proofs.Common.{◌≡◌, List, refl, ap, ◌∙◌, subst}
use Rattle.alternatives.specs.Texts.{is_boundary}
use Rattle.flow_defs.specs.Coded.{Coded}
use Rattle.alternatives.specs.declared.point.Point.{Point}
use Rattle.alternatives.specs.Numbers.{IsNumberOf}
use Rattle.alternatives.specs.Points.{points_of}
use Rattle.flow_defs.specs.Code.{alternatives_of, plain_point, points_of_object, texts_of}
use Rattle.object_points.proofs.Points.{known_point}
use Rattle.object_points.proofs.places.PointPlaces.is_boundary.Goals as goal

all_points : (o : Coded) → points_of_object o ≡ points_of (texts_of o) (alternatives_of o)
unfolding points_of_object
all_points o = refl

pub returns : goal.returns
returns c =
    let own : Coded = c.self.inside.linked.now in
    let point : Point = plain_point c.args.place in
    let points : c.sites.result.now.points ≡ points_of (texts_of own) (alternatives_of own) = c.sites.ensures.points ∙ all_points own in
    c.is_some.ensures
    ∙ known_point (texts_of own) (alternatives_of own) point c.number_of-plain.result (subst (λ (ps : List Point). IsNumberOf ps point c.number_of-plain.result) points c.number_of-plain.ensures)
    ∙ ap (λ (e : Coded). is_boundary (texts_of e) c.args.place) c.self.view_is
