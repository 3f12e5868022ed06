use Rattle.std.proofs.Common.{◌≡◌, List, length, map, sym, ap, ◌∙◌, subst}
use Rattle.std.specs.List.{zip}
use Rattle.std.proofs.lemmas.List.{length-map}
use Rattle.ot_base.specs.declared.place.Place.{Place}
use Rattle.object_points.specs.Places.{targets_of, AreByPlace}
use Rattle.object_points.specs.Marks.{AreMarked}
use Rattle.object_points.proofs.Runs.{zip_parts}
use Rattle.object_points.proofs.place_map.PlaceMap.build.Goals as goal

abbrev first : Place × Place → Place
first e = e.0

abbrev second : Place × Place → Place
second e = e.1

pub invariant_of-result : goal.invariant_of-result
invariant_of-result c =
    let sorted : List (Place × Place) = c.sort_by_first.new.pairs.items in
    let places : c.in_ok-places.places.items ≡ map first sorted = c.in_ok-places.ensures ∙ ap (map first) c.as_slice.ensures.value in
    let targets : c.in_ok-targets.targets.items ≡ map second sorted = c.in_ok-targets.ensures ∙ ap (map second) c.as_slice-2.ensures.value in (
      subst AreByPlace (sym places) c.in_ok-sort_by_first.ensures.sorted,
      ap length targets ∙ length-map sorted second ∙ sym (length-map sorted first) ∙ sym (ap length places),
      subst (λ ps. AreMarked (length c.in_ok-marks.marks.items) ps c.in_ok-marks.marks.items) c.deref.ensures.value c.in_ok-marks.ensures.set,
      c.in_ok-marks.ensures.some,
    )

pub returns : goal.returns
returns c =
    let sorted : List (Place × Place) = c.sort_by_first.new.pairs.items in
    let places : c.in_ok-places.places.items ≡ map first sorted = c.in_ok-places.ensures ∙ ap (map first) c.as_slice.ensures.value in
    let targets : c.in_ok-targets.targets.items ≡ map second sorted = c.in_ok-targets.ensures ∙ ap (map second) c.as_slice-2.ensures.value in
    let all : zip c.in_ok-places.places.items c.in_ok-targets.targets.items ≡ sorted =
    ap (λ ps. zip ps c.in_ok-targets.targets.items) places ∙ ap (zip (map first sorted)) targets ∙ zip_parts sorted in
    record { same = λ place. ap (λ (es : List (Place × Place)). targets_of es place) all ∙ c.in_ok-sort_by_first.ensures.same.same place }
