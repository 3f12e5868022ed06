use Rattle.std.proofs.Common.{◌++◌, ◌∷◌, [], ℕ, List, Option, Some, None, append-nil, sym, ap, ◌∙◌}
use Rattle.point_arrivals.specs.Remade.{room_owner}
use Rattle.point_arrivals.proofs.AllRooms.{made_next}
use Rattle.point_arrivals.proofs.rooms.room_owners.Goals as goal
use Rattle.point_arrivals.proofs.rooms.room_owners.Goals.{in-Some+in_ok-push, in_default}

pub loop-n-preserved : goal.loop-n-preserved
loop-n-preserved c =
    let make : ℕ → Option ℕ = room_owner c.args.places.now in
    elim c.match-room_owner.branch [
      | in-Some+in_ok-push w ↦
          ap (λ v. v.items) w.owners-is
          ∙ w.in_ok-push.ensures.items
          ∙ ap (λ (list : List ℕ). list ++ w.in-Some.owner ∷ []) c.loop-n.invariant
          ∙ sym (made_next make c.loop-n.n (Some w.in-Some.owner) (sym c.room_owner.ensures ∙ w.in-Some.is))
      | in_default w ↦
          ap (λ v. v.items) w.owners-is
          ∙ c.loop-n.invariant
          ∙ sym (made_next make c.loop-n.n None (sym c.room_owner.ensures ∙ w.in_default.is) ∙ append-nil _)
    ]
