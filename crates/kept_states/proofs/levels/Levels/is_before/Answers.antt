-- The point is at its place.
use Rattle.std.proofs.Common.{◌≡◌, ◌<◌, ◌≤◌, ◌-◌, ℕ, List, Contains, drop, take, get_or, length, ap, sym, ◌∙◌, subst, arith}
use Rattle.kept_states.specs.LevelStates.{LevelStates}
use Rattle.kept_states.specs.Reached.{kept_at}
use Rattle.kept_states.proofs.DonePoints.{front_before}
use Rattle.kept_states.proofs.Firsts.{has_point}
use Rattle.kept_states.proofs.Places.{point_inside, read_place}
use Rattle.kept_states.proofs.levels.Levels.is_before.Goals as goal

pub returns-then-self-place : goal.returns-then-self-place
returns-then-self-place c before =
    let places : List ℕ = c.self.inside.places.items in
    let reached : List ℕ = c.self.inside.reached.items in
    let few = c.self.invariant.2.ordered in
    let order = c.self.invariant.3 in
    let inside : c.args.n < length places = point_inside places (kept_at c.self.inside.kept c.self.inside.states.list) c.args.n (subst (λ (v : LevelStates). c.args.n < length v.kept) (sym c.self.view_is) c.requires.point) in
    let place : c.index.result.now ≡ get_or places c.args.n 0 = read_place places c.args.n c.index.result.now inside c.index.ensures in
    let long : c.args.i ≤ length (drop c.self.inside.front_from (take c.self.inside.front_to reached)) = subst (λ (v : LevelStates). c.args.i ≤ length v.front) (sym c.self.view_is) c.requires.inside in
    let fits : c.self.inside.front_to ≤ length reached = omega (arith, order.front_kept, few) in
    let low : c.self.inside.front_from ≤ c.index.result.now = c.if-self-place.true in
    let high : c.index.result.now - c.self.inside.front_from < c.args.i = (let h = before in grind arith) in
    let r = front_before reached c.self.inside.front_from c.self.inside.front_to c.args.i c.index.result.now fits long low high in
    let is : get_or reached (get_or places c.args.n 0) 0 ≡ c.args.n = has_point places reached c.self.inside.states.list c.self.inside.kept c.self.invariant.2 c.args.n inside (let l = r.0 in omega (arith, place, l)) in
    subst (λ (v : LevelStates). Contains (take c.args.i v.front) c.args.n) c.self.view_is
    (subst (λ (q : ℕ). Contains (take c.args.i (drop c.self.inside.front_from (take c.self.inside.front_to reached))) q) (ap (λ (i : ℕ). get_or reached i 0) place ∙ is) r.1)
