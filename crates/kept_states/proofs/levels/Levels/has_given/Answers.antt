-- The point is at its place.
use Rattle.std.proofs.Common.{◌≡◌, ◌<◌, ℕ, List, Contains, get_or, length, ap, sym, ◌∙◌, subst, arith}
use Rattle.kept_states.specs.Done.{done_of}
use Rattle.kept_states.specs.LevelStates.{LevelStates}
use Rattle.kept_states.specs.Reached.{kept_at}
use Rattle.kept_states.proofs.Firsts.{has_point}
use Rattle.kept_states.proofs.Places.{point_inside, read_place}
use Rattle.kept_states.proofs.levels.Levels.has_given.Goals as goal

pub returns-then-place-self : goal.returns-then-place-self
returns-then-place-self c holds =
    let places : List ℕ = c.self.inside.places.items in
    let reached : List ℕ = c.self.inside.reached.items in
    let few = c.self.invariant.2.ordered in
    let inside : c.args.n < length places = point_inside places (kept_at c.self.inside.kept c.self.inside.states.list) c.args.n (subst (λ (v : LevelStates). c.args.n < length v.kept) (sym c.self.view_is) c.requires) in
    let place : c.index.result.now ≡ get_or places c.args.n 0 = read_place places c.args.n c.index.result.now inside c.index.ensures in
    let is : get_or reached (get_or places c.args.n 0) 0 ≡ c.args.n = has_point places reached c.self.inside.states.list c.self.inside.kept c.self.invariant.2 c.args.n inside (omega (arith, place, c.if-place-self.true, few)) in
    let has : Contains (done_of c.self.inside.settled c.self.inside.front_from c.self.inside.batch reached) (get_or reached c.index.result.now 0) = c.has_given.ensures holds reached (omega (arith, c.self.invariant.3.batch_kept, few)) (omega (arith, c.self.invariant.3.front_in, c.self.invariant.3.front_kept, few)) in
    subst (λ (v : LevelStates). Contains v.done c.args.n) c.self.view_is
    (subst (λ (q : ℕ). Contains (done_of c.self.inside.settled c.self.inside.front_from c.self.inside.batch reached) q) (ap (λ (i : ℕ). get_or reached i 0) place ∙ is) has)
