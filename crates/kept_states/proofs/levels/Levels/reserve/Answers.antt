-- No point is reached, and there is room for all.
use Rattle.std.proofs.Common.{◌≡◌, [], length, replicate, refl, arith}
use Rattle.std.proofs.lemmas.List.{length-replicate}
use Rattle.kept_states.specs.Reached.{nowhere}
use Rattle.kept_states.proofs.Places.{none_reached, no_kept}
use Rattle.kept_states.proofs.levels.Levels.reserve.Goals as goal

pub invariant_of-result : goal.invariant_of-result
invariant_of-result c =
    let places : c.in_ok-no_places.field-0.items ≡ replicate c.args.points nowhere = c.in_ok-no_places.ensures in
    let reached : c.in_ok-with_capacity.field-0.items ≡ [] = c.in_ok-with_capacity.ensures.items in
    let region : c.in_ok-reserve.field-0 ≡ record { list = []; room = c.args.points } = c.in_ok-reserve.ensures in
    let long : length (replicate c.args.points nowhere) ≡ c.args.points = length-replicate c.args.points nowhere in
    rw (places, reached, region) (omega (arith, long, c.in_ok-with_capacity.ensures.exact), omega (arith, long), none_reached c.args.points (omega arith), record { front_in = omega arith; front_kept = omega arith; batch_kept = omega arith; begins = λ l. absurd (omega (arith, l)); goes_on = λ l. omega arith; first_in = omega arith; settled_in = omega arith })

pub returns : goal.returns
returns c =
    let places : c.in_ok-no_places.field-0.items ≡ replicate c.args.points nowhere = c.in_ok-no_places.ensures in
    let region : c.in_ok-reserve.field-0 ≡ record { list = []; room = c.args.points } = c.in_ok-reserve.ensures in
    rw (places, region, no_kept c.args.points) (refl, refl)
