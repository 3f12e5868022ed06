-- One function more.
use Rattle.std.proofs.Common.{◌≡◌, List, subst}
use Rattle.std.proofs.lemmas.List.{take_all}
use Rattle.ot_base.specs.declared.place.Place.{Place}
use Rattle.ot_base.specs.declared.warning.Warning.{Warning}
use Rattle.ot_base.specs.Warnings.{bare_warning}
use Rattle.stack_rules.specs.Gains.{Gains}
use Rattle.stack_rules.proofs.GainsLemmas.{OfSome, gains_element}
use Rattle.stack_rules.proofs.point_rules.push_sizes.Goals as goal

pub loop-place-preserved : goal.loop-place-preserved
loop-place-preserved c =
    let nowhere : Place = record { sec = 0; off = 0 } in
    let told : Place → Warning → Type 0 = λ place w. w ≡ bare_warning place 17 in
    gains_element c.args.into.now.items c.loop-place.into.items c.push.new.into.items c.args.places.now told c.loop-place.place-index nowhere c.loop-place-test.true c.loop-place.invariant
    (subst (λ (x : Warning). Gains c.loop-place.into.items c.push.new.into.items (λ w. w ≡ x)) c.bare_warning.ensures c.in_ok-push.ensures)

pub returns : goal.returns
returns c =
    let told : Place → Warning → Type 0 = λ place w. w ≡ bare_warning place 17 in
    subst (λ (xs : List Place). Gains c.args.into.now.items c.loop-place.into.items (OfSome xs told)) (take_all c.loop-place.place-index c.args.places.now c.loop-place-test.false) c.loop-place.invariant
