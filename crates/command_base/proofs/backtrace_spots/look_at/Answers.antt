use Rattle.std.proofs.Common.{◌≡◌, sym, ap, ◌∙◌, arith}
use Rattle.std.proofs.lemmas.List.{get_or_default}
use Rattle.ot_base.specs.Places.{same_place}
use Rattle.command_base.specs.declared.backtrace_spots.Spot.{Spot}
use Rattle.command_base.proofs.PlaceOrder.{same_is}
use Rattle.command_base.proofs.SpotLemmas.{found, no_spot, not_found}
use Rattle.command_base.proofs.backtrace_spots.look_at.Goals as goal
use Rattle.command_base.proofs.backtrace_spots.look_at.Goals.{else-number-spots-via-then-number-spots+else-eq, else-number-spots-via-else-number-spots}

pub returns-then-eq-clause-spots : goal.returns-then-eq-clause-spots
returns-then-eq-clause-spots c p states here keeps were =
    let place_is = same_is _ _ (sym c.if-eq.ensures) in
    found p states c.args.n c.args.place c.args.spots.now c.count_before-number.result c.with_point.result no_spot c.requires c.if-number-spots.true (sym c.if-eq.ensures) here were
    (c.with_point.ensures.spot p states (here ∙ sym place_is) keeps (were c.count_before-number.result no_spot c.if-number-spots.true))

pub returns-else-number-spots-clause-spots : goal.returns-else-number-spots-clause-spots
returns-else-number-spots-clause-spots c p states here keeps were =
    not_found p states c.args.n c.args.place c.args.spots.now c.count_before-number.result c.requires c.count_before-number.ensures.before c.count_before-number.ensures.others
    (λ d inside. elim c.else-number-spots.branch [
      | else-number-spots-via-then-number-spots+else-eq w ↦ ap (λ (x : Spot). same_place x.place c.args.place) (get_or_default c.args.spots.now c.count_before-number.result d no_spot inside) ∙ sym w.if-eq.ensures
      | else-number-spots-via-else-number-spots w ↦ absurd (omega (arith, inside, w.if-number-spots.false))
    ])
    here were
