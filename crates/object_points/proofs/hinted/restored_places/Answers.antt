use Rattle.std.proofs.Common.{◌++◌, ◌∷◌, [], List, Some, None, append-nil, sym, ap, ◌∙◌, arith}
use Rattle.ot_base.specs.declared.place.Place.{Place}
use Rattle.special_sections.specs.declared.entries.AltEntry.{AltEntry}
use Rattle.special_sections.specs.declared.entries.HintEntry.{HintEntry}
use Rattle.special_sections.specs.Special.{special_of}
use Rattle.object_points.specs.Hinted.{place_of_restored}
use Rattle.object_points.proofs.Found.{made_more}
use Rattle.object_points.proofs.hinted.restored_places.Goals as goal
use Rattle.object_points.proofs.hinted.restored_places.Goals.{in-Some+in_ok-push, in_default}

pub loop-entry-preserved : goal.loop-entry-preserved
loop-entry-preserved c =
    let entries : List AltEntry = c.args.entries.now in
    let hints : List HintEntry = (special_of c.args.places.now.elf).hints in
    elim c.match-place_of_restored.branch [
      | in-Some+in_ok-push w ↦
          ap (λ v. v.items) w.list-is
          ∙ w.in_ok-push.ensures.items
          ∙ ap (λ (list : List Place). list ++ w.in-Some.place ∷ []) c.loop-entry.invariant
          ∙ sym (made_more (place_of_restored hints) entries c.loop-entry.entry-index _ (Some w.in-Some.place) (omega (arith, c.loop-entry-test.true)) (sym c.place_of_restored.ensures ∙ w.in-Some.is))
      | in_default w ↦
          ap (λ v. v.items) w.list-is
          ∙ c.loop-entry.invariant
          ∙ sym (made_more (place_of_restored hints) entries c.loop-entry.entry-index _ None (omega (arith, c.loop-entry-test.true)) (sym c.place_of_restored.ensures ∙ w.in_default.is) ∙ append-nil _)
    ]
