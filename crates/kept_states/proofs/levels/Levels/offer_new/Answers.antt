-- A point that is offered a state for the first time is put behind those that are reached.
use Rattle.std.proofs.Common.{◌≡◌, ◌<◌, ◌≤◌, ℕ, List, [], ◌∷◌, ◌++◌, None, length, get_or, set, map, sym, ◌∙◌, subst, arith, length-set}
use Rattle.kept_states.specs.LevelStates.{LevelStates, at, offered}
use Rattle.kept_states.specs.Packed.{state_of}
use Rattle.kept_states.specs.Reached.{AreReached, kept_at, offered_at, settled_at}
use Rattle.kept_states.proofs.Places.{point_inside, not_reached, has_room, kept_too, offered_too, new_reached}
use Rattle.kept_states.proofs.Firsts.{make_offers, same_offers, settled_of, behind_settled, or_false, settled_stay}
use Rattle.kept_states.proofs.levels.Levels.offer_new.Goals as goal

pub push_reserved-requires : goal.push_reserved-requires
push_reserved-requires c =
    let places : List ℕ = c.self.inside.places.items in
    let inside : c.args.n < length places = point_inside places (kept_at c.self.inside.kept c.self.inside.states.list) c.args.n (subst (λ (v : LevelStates). c.args.n < length v.kept) (sym c.self.view_is) c.requires.point) in
    let behind : length c.self.inside.states.list ≤ get_or places c.args.n 0 =
    not_reached places c.self.inside.reached.items c.self.inside.states.list c.self.inside.kept c.self.invariant.2 c.args.n (state_of c.args.state) inside
    (subst (λ (v : LevelStates). at v.kept c.args.n ≡ None) (sym c.self.view_is) c.requires.not_kept)
    (subst (λ (v : LevelStates). at v.next.states c.args.n ≡ None) (sym c.self.view_is) c.requires.not_offered) in
    let room : length c.self.inside.reached.items < length places =
    has_room places c.self.inside.reached.items c.self.inside.states.list c.self.inside.kept c.self.invariant.2 c.args.n (state_of c.args.state) inside behind in
    omega (arith, room, c.self.invariant.0, c.self.inside.reached.ok)

pub push-requires : goal.push-requires
push-requires c =
    let places : List ℕ = c.self.inside.places.items in
    let are : AreReached places c.self.inside.reached.items c.self.inside.states.list c.self.inside.kept = c.self.invariant.2 in
    let inside : c.args.n < length places = point_inside places (kept_at c.self.inside.kept c.self.inside.states.list) c.args.n (subst (λ (v : LevelStates). c.args.n < length v.kept) (sym c.self.view_is) c.requires.point) in
    let behind : length c.self.inside.states.list ≤ get_or places c.args.n 0 =
    not_reached places c.self.inside.reached.items c.self.inside.states.list c.self.inside.kept c.self.invariant.2 c.args.n (state_of c.args.state) inside
    (subst (λ (v : LevelStates). at v.kept c.args.n ≡ None) (sym c.self.view_is) c.requires.not_kept)
    (subst (λ (v : LevelStates). at v.next.states c.args.n ≡ None) (sym c.self.view_is) c.requires.not_offered) in
    let room : length c.self.inside.reached.items < length places =
    has_room places c.self.inside.reached.items c.self.inside.states.list c.self.inside.kept are c.args.n (state_of c.args.state) inside behind in
    omega (arith, room, c.self.invariant.1, are.long)

pub invariant_of-self : goal.invariant_of-self
invariant_of-self c =
    let places : List ℕ = c.self.inside.places.items in
    let inside : c.args.n < length places = point_inside places (kept_at c.self.inside.kept c.self.inside.states.list) c.args.n (subst (λ (v : LevelStates). c.args.n < length v.kept) (sym c.self.view_is) c.requires.point) in
    let behind : length c.self.inside.states.list ≤ get_or places c.args.n 0 =
    not_reached places c.self.inside.reached.items c.self.inside.states.list c.self.inside.kept c.self.invariant.2 c.args.n (state_of c.args.state) inside
    (subst (λ (v : LevelStates). at v.kept c.args.n ≡ None) (sym c.self.view_is) c.requires.not_kept)
    (subst (λ (v : LevelStates). at v.next.states c.args.n ≡ None) (sym c.self.view_is) c.requires.not_offered) in
    let long : length (set places c.args.n (length c.self.inside.states.list)) ≡ length places = length-set places c.args.n (length c.self.inside.states.list) in
    rw (c.len.ensures, c.push_reserved.ensures.items, c.push.ensures) (
      omega (arith, long, c.push_reserved.ensures.capacity, c.self.invariant.0),
      omega (arith, long, c.self.invariant.1),
      new_reached places c.self.inside.reached.items c.self.inside.states.list c.self.inside.kept c.self.invariant.2 c.args.n (state_of c.args.state) inside behind,
      c.self.invariant.3,
    )

pub returns-clause-kept : goal.returns-clause-kept
returns-clause-kept c =
    let places : List ℕ = c.self.inside.places.items in
    let inside : c.args.n < length places = point_inside places (kept_at c.self.inside.kept c.self.inside.states.list) c.args.n (subst (λ (v : LevelStates). c.args.n < length v.kept) (sym c.self.view_is) c.requires.point) in
    let behind : length c.self.inside.states.list ≤ get_or places c.args.n 0 =
    not_reached places c.self.inside.reached.items c.self.inside.states.list c.self.inside.kept c.self.invariant.2 c.args.n (state_of c.args.state) inside
    (subst (λ (v : LevelStates). at v.kept c.args.n ≡ None) (sym c.self.view_is) c.requires.not_kept)
    (subst (λ (v : LevelStates). at v.next.states c.args.n ≡ None) (sym c.self.view_is) c.requires.not_offered) in
    rw (c.len.ensures, c.push.ensures)
    (subst (λ (v : LevelStates). map (kept_at c.self.inside.kept (c.self.inside.states.list ++ (state_of c.args.state) ∷ [])) (set places c.args.n (length c.self.inside.states.list)) ≡ v.kept) c.self.view_is
    (kept_too places c.self.inside.reached.items c.self.inside.states.list c.self.inside.kept c.self.invariant.2 c.args.n (state_of c.args.state) inside behind))

pub returns-clause-next : goal.returns-clause-next
returns-clause-next c =
    let places : List ℕ = c.self.inside.places.items in
    let inside : c.args.n < length places = point_inside places (kept_at c.self.inside.kept c.self.inside.states.list) c.args.n (subst (λ (v : LevelStates). c.args.n < length v.kept) (sym c.self.view_is) c.requires.point) in
    let behind : length c.self.inside.states.list ≤ get_or places c.args.n 0 =
    not_reached places c.self.inside.reached.items c.self.inside.states.list c.self.inside.kept c.self.invariant.2 c.args.n (state_of c.args.state) inside
    (subst (λ (v : LevelStates). at v.kept c.args.n ≡ None) (sym c.self.view_is) c.requires.not_kept)
    (subst (λ (v : LevelStates). at v.next.states c.args.n ≡ None) (sym c.self.view_is) c.requires.not_offered) in
    rw (c.len.ensures, c.push.ensures)
    (subst (λ (v : LevelStates). make_offers (map (offered_at c.self.inside.kept (c.self.inside.states.list ++ (state_of c.args.state) ∷ [])) (set places c.args.n (length c.self.inside.states.list))) (map (settled_at c.self.inside.first c.self.inside.settled) (set places c.args.n (length c.self.inside.states.list))) c.self.inside.met ≡ offered v.kept v.next c.args.n (state_of c.args.state)) c.self.view_is
    (same_offers _ _ _ _ _ _ (offered_too places c.self.inside.reached.items c.self.inside.states.list c.self.inside.kept c.self.invariant.2 c.args.n (state_of c.args.state) inside behind)
    (settled_stay c.self.inside.first c.self.inside.settled places c.args.n (length c.self.inside.states.list) inside (omega (arith, behind, c.self.invariant.3.settled_in, c.self.invariant.2.ordered, c.self.invariant.2.long)) (omega (arith, c.self.invariant.3.settled_in, c.self.invariant.2.ordered, c.self.invariant.2.long)))
    (or_false c.self.inside.met _ (settled_of c.self.inside.first c.self.inside.settled places c.args.n inside ∙ behind_settled c.self.inside.first c.self.inside.settled (get_or places c.args.n 0) (omega (arith, behind, c.self.invariant.3.settled_in, c.self.invariant.2.ordered, c.self.invariant.2.long))))))

pub overflow_cast-len : goal.overflow_cast-len
overflow_cast-len c =
    let places : List ℕ = c.self.inside.places.items in
    let are : AreReached places c.self.inside.reached.items c.self.inside.states.list c.self.inside.kept = c.self.invariant.2 in
    let inside : c.args.n < length places = point_inside places (kept_at c.self.inside.kept c.self.inside.states.list) c.args.n (subst (λ (v : LevelStates). c.args.n < length v.kept) (sym c.self.view_is) c.requires.point) in
    let behind : length c.self.inside.states.list ≤ get_or places c.args.n 0 =
    not_reached places c.self.inside.reached.items c.self.inside.states.list c.self.inside.kept are c.args.n (state_of c.args.state) inside
    (subst (λ (v : LevelStates). at v.kept c.args.n ≡ None) (sym c.self.view_is) c.requires.not_kept)
    (subst (λ (v : LevelStates). at v.next.states c.args.n ≡ None) (sym c.self.view_is) c.requires.not_offered) in
    let room : length c.self.inside.reached.items < length places =
    has_room places c.self.inside.reached.items c.self.inside.states.list c.self.inside.kept are c.args.n (state_of c.args.state) inside behind in
    omega (arith, room, are.few, are.long, c.len.ensures)
