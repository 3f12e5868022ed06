use Rattle.std.proofs.Common.{◌++◌, ◌∷◌, [], ℕ, List, Option, Some, None, append-nil, sym, ap, ◌∙◌, arith}
use Rattle.ot_base.specs.declared.place.Place.{Place}
use Rattle.flow_defs.specs.Owners.{owner_of_start}
use Rattle.object_points.proofs.Found.{made_more}
use Rattle.object_points.proofs.unchecked.list_owners.Goals as goal
use Rattle.object_points.proofs.unchecked.list_owners.Goals.{in-Some+in_ok-push, in_default}

pub loop-place-preserved : goal.loop-place-preserved
loop-place-preserved c =
    let make : Place → Option ℕ = owner_of_start c.args.index.now.elf in
    let places : List Place = c.args.places.now in
    elim c.match-owner_of_start.branch [
      | in-Some+in_ok-push w ↦
          ap (λ v. v.items) w.owners-is
          ∙ w.in_ok-push.ensures.items
          ∙ ap (λ (list : List ℕ). list ++ w.in-Some.owner ∷ []) c.loop-place.invariant
          ∙ sym (made_more make places c.loop-place.place-index _ (Some w.in-Some.owner) (omega (arith, c.loop-place-test.true)) (sym c.owner_of_start.ensures ∙ w.in-Some.is))
      | in_default w ↦
          ap (λ v. v.items) w.owners-is
          ∙ c.loop-place.invariant
          ∙ sym (made_more make places c.loop-place.place-index _ None (omega (arith, c.loop-place-test.true)) (sym c.owner_of_start.ensures ∙ w.in_default.is) ∙ append-nil _)
    ]
