-- No point is reached, and there is room for all, as at first.
use Rattle.std.proofs.Common.{◌≡◌, ℕ, length, replicate, subst, arith}
use Rattle.std.proofs.lemmas.List.{length-map, length-replicate}
use Rattle.kept_states.specs.LevelStates.{LevelStates}
use Rattle.kept_states.specs.Reached.{kept_at, nowhere}
use Rattle.kept_states.proofs.Places.{none_reached, no_kept}
use Rattle.kept_states.proofs.levels.Levels.clear.Goals as goal

pub invariant_of-self : goal.invariant_of-self
invariant_of-self c =
    let n : ℕ = length c.self.inside.places.items in
    let places : c.clear_places.new.places.items ≡ replicate n nowhere = c.clear_places.ensures.items in
    let long : length (replicate n nowhere) ≡ n = length-replicate n nowhere in
    rw (places, c.clear.ensures.items, c.clear-2.ensures) (
      omega (arith, long, c.clear.ensures.capacity, c.self.invariant.0),
      omega (arith, long, c.self.invariant.1),
      none_reached n (omega (arith, c.self.invariant.2.few)),
      record { front_in = omega arith; front_kept = omega arith; batch_kept = omega arith; begins = λ l. absurd (omega (arith, l)); goes_on = λ l. omega arith; first_in = omega arith; settled_in = omega arith },
    )

pub returns-clause-kept : goal.returns-clause-kept
returns-clause-kept c =
    let n : ℕ = length c.self.inside.places.items in
    let places : c.clear_places.new.places.items ≡ replicate n nowhere = c.clear_places.ensures.items in
    let len : length c.args.self.now.kept ≡ n = subst (λ (v : LevelStates). length v.kept ≡ n) c.self.view_is (length-map c.self.inside.places.items (kept_at c.self.inside.kept c.self.inside.states.list)) in
    rw (places, c.clear-2.ensures, len) (no_kept n)

pub returns-clause-next : goal.returns-clause-next
returns-clause-next c =
    let n : ℕ = length c.self.inside.places.items in
    let places : c.clear_places.new.places.items ≡ replicate n nowhere = c.clear_places.ensures.items in
    let len : length c.args.self.now.kept ≡ n = subst (λ (v : LevelStates). length v.kept ≡ n) c.self.view_is (length-map c.self.inside.places.items (kept_at c.self.inside.kept c.self.inside.states.list)) in
    rw (places, c.clear-2.ensures, len) (no_kept n)
