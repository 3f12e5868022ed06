use Rattle.std.proofs.Common.{◌++◌, ◌∷◌, [], List, Some, None, append-nil, sym, ap, ◌∙◌, arith}
use Rattle.ot_base.specs.declared.place.Place.{Place}
use Rattle.special_sections.specs.declared.entries.HintEntry.{HintEntry}
use Rattle.object_points.specs.Hinted.{place_of_either}
use Rattle.object_points.proofs.Found.{made_more}
use Rattle.object_points.proofs.hinted.places_of.Goals as goal
use Rattle.object_points.proofs.hinted.places_of.Goals.{in-Some+in_ok-push, in_default}

pub loop-hint-preserved : goal.loop-hint-preserved
loop-hint-preserved c =
    let hints : List HintEntry = c.args.hints.now in
    elim c.match-place_of.branch [
      | in-Some+in_ok-push w ↦
          ap (λ v. v.items) w.places-is
          ∙ w.in_ok-push.ensures.items
          ∙ ap (λ (list : List Place). list ++ w.in-Some.place ∷ []) c.loop-hint.invariant
          ∙ sym (made_more place_of_either hints c.loop-hint.hint-index _ (Some w.in-Some.place) (omega (arith, c.loop-hint-test.true)) (sym c.place_of.ensures ∙ w.in-Some.is))
      | in_default w ↦
          ap (λ v. v.items) w.places-is
          ∙ c.loop-hint.invariant
          ∙ sym (made_more place_of_either hints c.loop-hint.hint-index _ None (omega (arith, c.loop-hint-test.true)) (sym c.place_of.ensures ∙ w.in_default.is) ∙ append-nil _)
    ]
