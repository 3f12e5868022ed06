use Rattle.std.proofs.Common.{List, length, sym, ap, ◌∙◌, subst}
use Rattle.std.proofs.lemmas.List.Sorted.{list_any-IsPermutation}
use Rattle.ot_base.specs.declared.place.Place.{Place}
use Rattle.ot_base.specs.Places.{same_place}
use Rattle.object_points.specs.Places.{is_among}
use Rattle.object_points.specs.Marks.{AreMarked}
use Rattle.object_points.proofs.Order.{by_place}
use Rattle.object_points.proofs.place_set.PlaceSet.build.Goals as goal

pub invariant_of-result : goal.invariant_of-result
invariant_of-result c = (
  by_place _ c.sort_unstable.ensures.sorted,
  subst (λ ps. AreMarked (length c.in_ok-marks.marks.items) ps c.in_ok-marks.marks.items) c.deref.ensures.value c.in_ok-marks.ensures.set,
  c.in_ok-marks.ensures.some,
)

pub returns : goal.returns
returns c =
    let sorted : List Place = c.sort_unstable.new.self.items in
    record {
      same = λ place.
          sym (list_any-IsPermutation (same_place place) c.in_ok-places.places.items sorted c.sort_unstable.ensures.permutation)
          ∙ ap (λ (list : List Place). is_among list place) c.in_ok-places.ensures.items;
    }
