use Rattle.std.proofs.Common.{List, sym, ap, ◌∙◌, subst}
use Rattle.std.specs.List.{list_any}
use Rattle.ot_base.specs.declared.place.Place.{Place}
use Rattle.ot_base.specs.Places.{same_place}
use Rattle.object_points.specs.Places.{AreByPlace}
use Rattle.object_points.proofs.Order.{searched}
use Rattle.object_points.proofs.place_set.PlaceSet.search.Goals as goal

pub returns : goal.returns
returns c =
    let places : List Place = c.deref.result.now in
    let by : AreByPlace places = subst AreByPlace (sym c.deref.ensures.value) c.self.invariant.0 in
    c.is_ok.ensures.value
    ∙ searched places c.args.place c.binary_search.result by c.binary_search.ensures.bound c.binary_search.ensures.position
    ∙ ap (list_any (same_place c.args.place)) (c.deref.ensures.value ∙ c.self.view_is)
