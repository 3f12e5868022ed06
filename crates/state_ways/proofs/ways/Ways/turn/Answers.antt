-- There is one turn more, with the one before it that the other point names.
use Rattle.std.proofs.Common.{◌≡◌, ◌≢◌, ℕ, ◌<◌, List, [], ◌∷◌, ◌++◌, Some, length, map, get_or, set, ap, sym, ◌∙◌, subst, arith}
use Rattle.state_ways.specs.declared.steps.WayStep.{WayStep}
use Rattle.state_ways.specs.declared.ways.Turn.{Turn}
use Rattle.state_ways.specs.Turns.{chain_at, chains_of, nowhere}
use Rattle.state_ways.specs.Ways.{step, turns_at}
use Rattle.state_ways.proofs.Chains.{named_at, point_inside, read_last, turns_more, vacant_at, view_at, view_more}
use Rattle.state_ways.proofs.ways.Ways.turn.Goals as goal

pub invariant_of-self-2 : goal.invariant_of-self-2
invariant_of-self-2 c =
    let last : List ℕ = c.self.inside.last.items in
    let turns : List Turn = c.self.inside.turns.items in
    let q : ℕ = c.args.point in
    let b : ℕ = get_or last c.args.from 0 in
    let t : Turn = record { step = step q c.args.kind; before = Some b } in
    let inside : q < length last = point_inside last turns c.self.invariant q (subst (λ (v : List (List WayStep)). q < length v) (sym c.self.view_is) c.requires.point) in
    let from : c.args.from < length last = point_inside last turns c.self.invariant c.args.from (subst (λ (v : List (List WayStep)). c.args.from < length v) (sym c.self.view_is) c.requires.from) in
    let vacant : get_or last q 0 ≡ nowhere = vacant_at last turns c.self.invariant q inside (subst (λ (v : List (List WayStep)). turns_at v q ≡ []) (sym c.self.view_is) c.requires.fresh) in
    let read : c.index.result.now ≡ b = read_last last c.args.from c.index.result.now from c.index.ensures in
    let named : b < length turns = named_at last turns c.self.invariant c.args.from from (subst (λ (v : List (List WayStep)). turns_at v c.args.from ≢ []) (sym c.self.view_is) c.requires.shown) in
    let items : c.push.new.self.items ≡ turns ++ t ∷ [] = c.in_ok-push.ensures.items ∙ ap (λ (n : ℕ). turns ++ record { step = step q c.args.kind; before = Some n } ∷ []) read in
    let number : c.len-number.result ≡ length turns = omega (arith, c.len-number.ensures) in
    rw (items, number) (turns_more last turns c.self.invariant q inside vacant t (λ j e. let k : b ≡ j = cc in omega (arith, k, named)))

pub returns : goal.returns
returns c =
    let last : List ℕ = c.self.inside.last.items in
    let turns : List Turn = c.self.inside.turns.items in
    let q : ℕ = c.args.point in
    let b : ℕ = get_or last c.args.from 0 in
    let t : Turn = record { step = step q c.args.kind; before = Some b } in
    let inside : q < length last = point_inside last turns c.self.invariant q (subst (λ (v : List (List WayStep)). q < length v) (sym c.self.view_is) c.requires.point) in
    let from : c.args.from < length last = point_inside last turns c.self.invariant c.args.from (subst (λ (v : List (List WayStep)). c.args.from < length v) (sym c.self.view_is) c.requires.from) in
    let vacant : get_or last q 0 ≡ nowhere = vacant_at last turns c.self.invariant q inside (subst (λ (v : List (List WayStep)). turns_at v q ≡ []) (sym c.self.view_is) c.requires.fresh) in
    let read : c.index.result.now ≡ b = read_last last c.args.from c.index.result.now from c.index.ensures in
    let items : c.push.new.self.items ≡ turns ++ t ∷ [] = c.in_ok-push.ensures.items ∙ ap (λ (n : ℕ). turns ++ record { step = step q c.args.kind; before = Some n } ∷ []) read in
    let number : c.len-number.result ≡ length turns = omega (arith, c.len-number.ensures) in
    let at_from : chain_at (chains_of turns) b ≡ turns_at (map (chain_at (chains_of turns)) last) c.args.from = sym (view_at last turns c.self.invariant c.args.from from) in
    ap (λ (ts : List Turn). map (chain_at (chains_of ts)) (set last q c.len-number.result)) items
    ∙ (ap (λ (n : ℕ). map (chain_at (chains_of (turns ++ t ∷ []))) (set last q n)) number
    ∙ (view_more last turns c.self.invariant q inside vacant t
    ∙ (ap (λ (w : List WayStep). set (map (chain_at (chains_of turns)) last) q (w ++ step q c.args.kind ∷ [])) at_from
    ∙ ap (λ (v : List (List WayStep)). set v q (turns_at v c.args.from ++ step q c.args.kind ∷ [])) c.self.view_is)))
