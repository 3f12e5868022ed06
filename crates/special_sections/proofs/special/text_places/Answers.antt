use Rattle.std.proofs.Common.{◌∙◌, ◌++◌, [], ◌∷◌, ℕ, Bool, List, ap, sym, cond, filter, get_or, take, append-nil}
use Rattle.std.proofs.lemmas.List.{take_more}
use Rattle.std.proofs.lemmas.List.Elements.{filter-append}
use Rattle.ot_base.specs.declared.place.Place.{Place}
use Rattle.special_sections.specs.declared.fields.Bound.TheVariants.{BelowEnd}
use Rattle.special_sections.specs.Fields.{is_text_place}
use Rattle.special_sections.proofs.special.text_places.Goals as goal
use Rattle.special_sections.proofs.special.text_places.Goals.{then-is_text_place+in_ok-push, else-is_text_place}

pub loop-place-preserved : goal.loop-place-preserved
loop-place-preserved c =
    let places : List Place = c.args.places.now in
    let i : ℕ = c.loop-place.place-index in
    let place : Place = get_or places i (record { sec = 0; off = 0 }) in
    let before : List Place = filter (is_text_place c.args.object.now BelowEnd) (take i places) in
    let more = ap (filter (is_text_place c.args.object.now BelowEnd)) (take_more places i (record { sec = 0; off = 0 }) c.loop-place-test.true) ∙ filter-append (is_text_place c.args.object.now BelowEnd) (take i places) (place ∷ []) in
    elim c.if-is_text_place.branch [
      | then-is_text_place+in_ok-push w ↦
          ap (λ l. l.items) w.list-is
          ∙ w.in_ok-push.ensures.items
          ∙ ap (λ ys. ys ++ place ∷ []) c.loop-place.invariant
          ∙ sym (more ∙ ap (λ (b : Bool). before ++ cond b (place ∷ []) []) (sym c.is_text_place.ensures ∙ w.if-is_text_place.true))
      | else-is_text_place w ↦
          ap (λ l. l.items) w.list-is
          ∙ c.loop-place.invariant
          ∙ sym (more ∙ ap (λ (b : Bool). before ++ cond b (place ∷ []) []) (sym c.is_text_place.ensures ∙ w.if-is_text_place.false) ∙ append-nil before)
    ]
