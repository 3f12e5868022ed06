-- A point that is kept leaves what is offered aside, and one that was offered another has the lesser.
use Rattle.std.proofs.Common.{◌≡◌, ◌<◌, ℕ, List, Some, length, ◌||◌, Bool, get_or, set, slice_get, map, refl, ap, sym, ◌∙◌, subst, arith}
use Rattle.kept_states.specs.LevelStates.{LevelStates, offered}
use Rattle.kept_states.specs.Packed.{state_of}
use Rattle.kept_states.specs.Reached.{kept_at, offered_at, settled_at}
use Rattle.kept_states.proofs.Places.{point_inside, read_place, leaves_kept, kept_same, offered_better, better_reached}
use Rattle.kept_states.proofs.Firsts.{make_offers, same_offers, settled_of, behind_settled, or_false}
use Rattle.kept_states.proofs.levels.Levels.offer_again.Goals as goal

pub returns-then-place-self-clause-next : goal.returns-then-place-self-clause-next
returns-then-place-self-clause-next c =
    let places : List ℕ = c.self.inside.places.items in
    let inside : c.args.n < length places = point_inside places (kept_at c.self.inside.kept c.self.inside.states.list) c.args.n (subst (λ (v : LevelStates). c.args.n < length v.kept) (sym c.self.view_is) c.requires) in
    let place : c.index.result.now ≡ get_or places c.args.n 0 = read_place places c.args.n c.index.result.now inside c.index.ensures in
    subst (λ (v : LevelStates). make_offers (map (offered_at c.self.inside.kept c.self.inside.states.list) places) (map (settled_at c.self.inside.first c.self.inside.settled) places) (c.self.inside.met || c.is_settled_at.result) ≡ offered v.kept v.next c.args.n (state_of c.args.state)) c.self.view_is
    (same_offers _ _ _ _ _ _ (leaves_kept places c.self.inside.reached.items c.self.inside.states.list c.self.inside.kept c.self.invariant.2 c.args.n (state_of c.args.state) inside (omega (arith, place, c.if-place-self.true))) refl
    (ap (λ (b : Bool). c.self.inside.met || b) (c.is_settled_at.ensures ∙ (ap (settled_at c.self.inside.first c.self.inside.settled) place ∙ sym (settled_of c.self.inside.first c.self.inside.settled places c.args.n inside)))))

pub invariant_of-self-then-place-len : goal.invariant_of-self-then-place-len
invariant_of-self-then-place-len c =
    let places : List ℕ = c.self.inside.places.items in
    let inside : c.args.n < length places = point_inside places (kept_at c.self.inside.kept c.self.inside.states.list) c.args.n (subst (λ (v : LevelStates). c.args.n < length v.kept) (sym c.self.view_is) c.requires) in
    let place : c.index.result.now ≡ get_or places c.args.n 0 = read_place places c.args.n c.index.result.now inside c.index.ensures in
    let was : slice_get c.self.inside.states.list (get_or places c.args.n 0) ≡ Some (state_of c.packed-best.result) = ap (slice_get c.self.inside.states.list) (sym place) ∙ c.packed-best.ensures in
    rw (c.set.ensures, place)
    (c.self.invariant.0, c.self.invariant.1, better_reached places c.self.inside.reached.items c.self.inside.states.list c.self.inside.kept c.self.invariant.2 c.args.n (state_of c.args.state) inside (omega (arith, place, c.if-place-self.false)) (state_of c.packed-best.result) (state_of c.lesser.result) was, c.self.invariant.3)

pub returns-then-place-len-clause-kept : goal.returns-then-place-len-clause-kept
returns-then-place-len-clause-kept c =
    let places : List ℕ = c.self.inside.places.items in
    let inside : c.args.n < length places = point_inside places (kept_at c.self.inside.kept c.self.inside.states.list) c.args.n (subst (λ (v : LevelStates). c.args.n < length v.kept) (sym c.self.view_is) c.requires) in
    let place : c.index.result.now ≡ get_or places c.args.n 0 = read_place places c.args.n c.index.result.now inside c.index.ensures in
    let was : slice_get c.self.inside.states.list (get_or places c.args.n 0) ≡ Some (state_of c.packed-best.result) = ap (slice_get c.self.inside.states.list) (sym place) ∙ c.packed-best.ensures in
    rw (c.set.ensures, place)
    (subst (λ (v : LevelStates). map (kept_at c.self.inside.kept (set c.self.inside.states.list (get_or places c.args.n 0) (state_of c.lesser.result))) places ≡ v.kept) c.self.view_is
    (kept_same places c.self.inside.reached.items c.self.inside.states.list c.self.inside.kept c.self.invariant.2 c.args.n (state_of c.args.state) inside (omega (arith, place, c.if-place-self.false)) (state_of c.packed-best.result) (state_of c.lesser.result) was))

pub returns-then-place-len-clause-next : goal.returns-then-place-len-clause-next
returns-then-place-len-clause-next c =
    let places : List ℕ = c.self.inside.places.items in
    let inside : c.args.n < length places = point_inside places (kept_at c.self.inside.kept c.self.inside.states.list) c.args.n (subst (λ (v : LevelStates). c.args.n < length v.kept) (sym c.self.view_is) c.requires) in
    let place : c.index.result.now ≡ get_or places c.args.n 0 = read_place places c.args.n c.index.result.now inside c.index.ensures in
    let was : slice_get c.self.inside.states.list (get_or places c.args.n 0) ≡ Some (state_of c.packed-best.result) = ap (slice_get c.self.inside.states.list) (sym place) ∙ c.packed-best.ensures in
    rw (c.set.ensures, place)
    (subst (λ (v : LevelStates). make_offers (map (offered_at c.self.inside.kept (set c.self.inside.states.list (get_or places c.args.n 0) (state_of c.lesser.result))) places) (map (settled_at c.self.inside.first c.self.inside.settled) places) c.self.inside.met ≡ offered v.kept v.next c.args.n (state_of c.args.state)) c.self.view_is
    (same_offers _ _ _ _ _ _ (offered_better places c.self.inside.reached.items c.self.inside.states.list c.self.inside.kept c.self.invariant.2 c.args.n (state_of c.args.state) inside (omega (arith, place, c.if-place-self.false)) (state_of c.packed-best.result) (state_of c.lesser.result) was c.lesser.ensures) refl
    (or_false c.self.inside.met _ (settled_of c.self.inside.first c.self.inside.settled places c.args.n inside ∙ behind_settled c.self.inside.first c.self.inside.settled (get_or places c.args.n 0) (omega (arith, place, c.if-place-self.false, c.self.invariant.3.settled_in))))))
