use Rattle.std.proofs.Common.{List, sym, ◌∙◌, subst}
use Rattle.std.proofs.lemmas.Result.{IfOk-weaker}
use Rattle.ot_base.specs.declared.place.Place.{Place}
use Rattle.object_points.specs.Places.{HaveSamePlaces}
use Rattle.taken_places.specs.Taken.{taken_places}
use Rattle.entry_rules.proofs.entry_check.taken_set.Goals as goal

-- the set is of the places that are listed
pub returns : goal.returns
returns c =
    let listed : HaveSamePlaces (taken_places c.args.linked.now) c.deref.result.now = subst (λ (ps : List Place). HaveSamePlaces (taken_places c.args.linked.now) ps) (sym c.deref.ensures.value) c.in_ok-listed.ensures in
    IfOk-weaker c.build.result (HaveSamePlaces c.deref.result.now) (HaveSamePlaces (taken_places c.args.linked.now)) (λ set h. record { same = λ place. h.same place ∙ listed.same place }) c.build.ensures
