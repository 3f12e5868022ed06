use Rattle.std.proofs.Common.{sym, subst, ap, ◌∙◌, ℕ, ◌-◌, ◌<◌, length, get_or, false, ◌≡◌}
use Rattle.ot_base.specs.declared.place.Place.{Place}
use Rattle.ot_base.specs.Places.{is_before, same_place}
use Rattle.command_base.specs.declared.backtrace_spots.Spot.{Spot}
use Rattle.command_base.specs.BacktraceSpots.{AreApart, AreSpots}
use Rattle.command_base.proofs.SpotLemmas.{apart_more, spots_more}
use Rattle.command_base.proofs.backtrace_spots.push_place.Goals as goal

pub returns-clause-apart : goal.returns-clause-apart
returns-clause-apart c =
    let spots = c.args.spots.now.items in
    let same : c.deref.result.now ≡ spots = c.deref.ensures.value in
    subst AreApart (sym c.in_ok-push.ensures.items)
    (apart_more spots c.at.result c.requires.apart
    (λ d some. ap (λ (x : Place). is_before x (get_or spots (length spots - 1) d).place) c.at.ensures.place ∙ c.requires.behind d some)
    (λ d some. ap (λ (x : Place). same_place (get_or spots (length spots - 1) d).place x) c.at.ensures.place ∙ subst (λ xs. same_place (get_or xs (length xs - 1) d).place c.args.place ≡ false) same (c.is_last.ensures.same d (subst (λ xs. 0 < length xs) (sym same) some) ∙ c.if-is_last.false)))

pub returns-clause-new : goal.returns-clause-new
returns-clause-new c p states were = subst (AreSpots p states 0) (sym c.in_ok-push.ensures.items) (spots_more p states c.args.spots.now.items c.at.result (c.at.ensures.new p states) were)
