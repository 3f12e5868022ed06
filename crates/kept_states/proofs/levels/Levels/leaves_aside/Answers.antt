-- What is offered to a point that is kept changes no state.
use Rattle.std.proofs.Common.{◌≡◌, ◌<◌, ℕ, List, length, ◌||◌, Bool, get_or, map, refl, ap, sym, ◌∙◌, subst, arith}
use Rattle.kept_states.specs.LevelStates.{LevelStates, offered}
use Rattle.kept_states.specs.Reached.{kept_at, offered_at, settled_at}
use Rattle.kept_states.proofs.Places.{point_inside, read_place, leaves_kept}
use Rattle.kept_states.proofs.Firsts.{make_offers, same_offers, settled_of}
use Rattle.kept_states.proofs.levels.Levels.leaves_aside.Goals as goal

pub returns-clause-next : goal.returns-clause-next
returns-clause-next c holds s =
    let places : List ℕ = c.self.inside.places.items in
    let inside : c.args.n < length places = point_inside places (kept_at c.self.inside.kept c.self.inside.states.list) c.args.n (subst (λ (v : LevelStates). c.args.n < length v.kept) (sym c.self.view_is) c.requires) in
    let place : c.index.result.now ≡ get_or places c.args.n 0 = read_place places c.args.n c.index.result.now inside c.index.ensures in
    subst (λ (v : LevelStates). make_offers (map (offered_at c.self.inside.kept c.self.inside.states.list) places) (map (settled_at c.self.inside.first c.self.inside.settled) places) (c.self.inside.met || c.is_settled_at.result) ≡ offered v.kept v.next c.args.n s) c.self.view_is
    (same_offers _ _ _ _ _ _ (leaves_kept places c.self.inside.reached.items c.self.inside.states.list c.self.inside.kept c.self.invariant.2 c.args.n s inside (omega (arith, place, c.if-self-place.false))) refl
    (ap (λ (b : Bool). c.self.inside.met || b) (c.is_settled_at.ensures ∙ (ap (settled_at c.self.inside.first c.self.inside.settled) place ∙ sym (settled_of c.self.inside.first c.self.inside.settled places c.args.n inside)))))
