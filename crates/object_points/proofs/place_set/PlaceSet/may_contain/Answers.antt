use Rattle.std.proofs.Common.{◌≡◌, ℕ, false, List, length, sym, ap, ◌∙◌}
use Rattle.std.specs.List.{list_any}
use Rattle.ot_base.specs.declared.place.Place.{Place}
use Rattle.ot_base.specs.Places.{same_place}
use Rattle.object_points.specs.Marks.{is_marked}
use Rattle.object_points.proofs.Marked.{not_among}
use Rattle.object_points.proofs.place_set.PlaceSet.may_contain.Goals as goal

pub returns : goal.returns
returns c = λ no.
    let places : List Place = c.self.inside.places.items in
    let unset : is_marked (length c.self.inside.marks.items) c.self.inside.marks.items c.args.place ≡ false = sym (ap (λ (marks : List ℕ). is_marked (length marks) marks c.args.place) c.deref.ensures.value) ∙ sym c.is_marked.ensures ∙ no in
    sym (ap (list_any (same_place c.args.place)) c.self.view_is) ∙ not_among (length c.self.inside.marks.items) places c.self.inside.marks.items c.args.place c.self.invariant.1 unset
