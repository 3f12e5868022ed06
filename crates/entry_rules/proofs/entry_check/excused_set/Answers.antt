use Rattle.std.proofs.Common.{List, ap, ◌∙◌}
use Rattle.std.proofs.lemmas.Result.{IfOk-weaker}
use Rattle.ot_base.specs.declared.place.Place.{Place}
use Rattle.object_points.specs.Places.{HaveSamePlaces, is_among}
use Rattle.taken_places.specs.Taken.{excused_places}
use Rattle.entry_rules.proofs.entry_check.excused_set.Goals as goal

-- the set is of the places that are listed
pub returns : goal.returns
returns c =
    let listed : HaveSamePlaces (excused_places c.args.object.now) c.deref.result.now = record { same = λ place. ap (λ (ps : List Place). is_among ps place) (c.deref.ensures.value ∙ c.in_ok-listed.ensures) } in
    IfOk-weaker c.build.result (HaveSamePlaces c.deref.result.now) (HaveSamePlaces (excused_places c.args.object.now)) (λ set h. record { same = λ place. h.same place ∙ listed.same place }) c.build.ensures
