use Rattle.std.proofs.Common.{◌≡◌, ℕ, false, List, length, sym, ap, ◌∙◌}
use Rattle.ot_base.specs.declared.place.Place.{Place}
use Rattle.object_points.specs.Places.{targets_of}
use Rattle.object_points.specs.Marks.{is_marked}
use Rattle.object_points.proofs.Marked.{leads_nowhere}
use Rattle.object_points.proofs.place_map.PlaceMap.targets.Goals as goal

pub returns-then-not-is_marked : goal.returns-then-not-is_marked
returns-then-not-is_marked c =
    let places : List Place = c.self.inside.places.items in
    let targets : List Place = c.self.inside.targets.items in
    let unset : is_marked (length c.self.inside.marks.items) c.self.inside.marks.items c.args.place ≡ false = sym (ap (λ (marks : List ℕ). is_marked (length marks) marks c.args.place) c.deref.ensures.value) ∙ sym c.is_marked.ensures ∙ c.if-not-is_marked.true in
    sym (leads_nowhere (length c.self.inside.marks.items) places targets c.self.inside.marks.items c.args.place c.self.invariant.2 unset) ∙ ap (λ es. targets_of es c.args.place) c.self.view_is
