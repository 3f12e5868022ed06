use Rattle.std.proofs.Common.{◌≡◌, ℕ, [], ◌∷◌, false, if◌then◌else◌, Option, Some, None, sym, ap, ◌∙◌}
use Rattle.std.specs.Prelude.{IfSome}
use Rattle.ot_base.specs.declared.place.Place.{Place}
use Rattle.flow_defs.specs.Coded.{Coded}
use Rattle.flow_defs.specs.Arrival.{arrive}
use Rattle.flow_defs.specs.Code.{alternatives_of, number_of, plain_point}
use Rattle.object_points.specs.Places.{is_among}
use Rattle.point_arrivals.specs.Lists.{original_places_of}
use Rattle.point_arrivals.proofs.Arriving.{alone_is}
use Rattle.point_arrivals.proofs.arrive.arrive_alone.Goals as goal

by : (o : Coded) (place : Place) (plain : Option ℕ) → is_among (original_places_of (alternatives_of o)) place ≡ false → plain ≡ number_of o (plain_point place) → IfSome plain (λ q. arrive o place ≡ q ∷ [])
by o place None none is = search
by o place (Some n) none is = alone_is o place n none (sym is)

pub returns : goal.returns
returns c =
    let o : Coded = c.args.places.now in
    let place : Place = c.args.place in
    let none : is_among (original_places_of (alternatives_of o)) place ≡ false = sym (c.requires.same place) ∙ sym c.contains.ensures ∙ c.if-contains.false in record {
      exact = c.number_by_guess.ensures ∙ sym (ap (λ b. if b then None else number_of o (plain_point place)) none);
      alone = by o place c.number_by_guess.result none c.number_by_guess.ensures;
    }
