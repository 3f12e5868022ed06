use Rattle.std.proofs.Common.{◌≡◌, ℕ, Bool, true, false, Option, Some, None, refl, sym, ap, ◌∙◌, if◌then◌else◌}
use Rattle.ot_base.specs.declared.place.Place.{Place}
use Rattle.alternatives.specs.Texts.{is_boundary}
use Rattle.machine_defs.specs.declared.flow.EdgeKind.{EdgeKind}
use Rattle.flow_defs.specs.Coded.{Coded}
use Rattle.flow_defs.specs.declared.destination.Crossing.{Crossing}
use Rattle.flow_defs.specs.declared.destination.Way.TheVariants.{Bad}
use Rattle.flow_defs.specs.Code.{plain_point, texts_of}
use Rattle.flow_defs.specs.Owners.{unchecked_start}
use Rattle.flow_defs.specs.Ways.{branch_way, way_by}
use Rattle.point_edges.proofs.Numbered.{numbered}
use Rattle.point_edges.proofs.Plain.{plain_boundary, plain_owner}
use Rattle.point_edges.proofs.place_ways.way_by_guess.Goals as goal

-- the way by whether the place is a boundary, and by the unchecked function that starts there
way_is : (o : Coded) (crossing : Crossing) (kind : EdgeKind) (from : Option ℕ) (place : Place) (boundary : Bool) (start : Option ℕ) → boundary ≡ is_boundary (texts_of o) place → start ≡ unchecked_start o.elf place → (if boundary then way_by o crossing kind from place start else Bad) ≡ branch_way o crossing kind from place
unfolding branch_way
way_is o crossing kind from place boundary start is_one starts =
    ap (λ b. if b then way_by o crossing kind from place start else Bad) is_one
    ∙ ap (λ s. if is_boundary (texts_of o) place then way_by o crossing kind from place s else Bad) starts

pub returns-in_default : goal.returns-in_default
returns-in_default c =
    let o : Coded = c.args.places.now in
    way_is o c.args.crossing c.args.kind c.args.from c.args.place false (unchecked_start o.elf c.args.place) (plain_boundary o c.args.place None c.in_default.ensures) refl

pub checked_way-requires : goal.checked_way-requires
checked_way-requires c =
    let o : Coded = c.args.places.now in
    c.owner.ensures ∙ plain_owner o c.args.place c.in-Some.to (numbered o (plain_point c.args.place) c.in-Some.to (sym c.in-Some.ensures)).1

pub returns-in-Some-unchecked_start : goal.returns-in-Some-unchecked_start
returns-in-Some-unchecked_start c =
    let o : Coded = c.args.places.now in
    way_is o c.args.crossing c.args.kind c.args.from c.args.place true (Some c.in-Some-unchecked_start.function) (plain_boundary o c.args.place (Some c.in-Some.to) c.in-Some.ensures) c.in-Some-unchecked_start.ensures

pub returns-in-None : goal.returns-in-None
returns-in-None c =
    let o : Coded = c.args.places.now in
    c.checked_way.ensures
    ∙ way_is o c.args.crossing c.args.kind c.args.from c.args.place true None (plain_boundary o c.args.place (Some c.in-Some.to) c.in-Some.ensures) c.in-None.ensures
