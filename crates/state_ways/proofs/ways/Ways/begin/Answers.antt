-- There is one turn more, with none before it.
use Rattle.std.proofs.Common.{◌≡◌, ℕ, ◌<◌, List, [], ◌∷◌, ◌++◌, None, length, map, get_or, set, ap, sym, ◌∙◌, subst, arith}
use Rattle.state_ways.specs.declared.steps.WayStep.{WayStep}
use Rattle.state_ways.specs.declared.ways.Turn.{Turn}
use Rattle.state_ways.specs.Turns.{chain_at, chains_of, nowhere}
use Rattle.state_ways.specs.Ways.{step, turns_at}
use Rattle.state_ways.proofs.Chains.{point_inside, turns_more, vacant_at, view_more}
use Rattle.state_ways.proofs.ways.Ways.begin.Goals as goal

pub invariant_of-self-2 : goal.invariant_of-self-2
invariant_of-self-2 c =
    let last : List ℕ = c.self.inside.last.items in
    let turns : List Turn = c.self.inside.turns.items in
    let q : ℕ = c.args.point in
    let t : Turn = record { step = step q c.args.kind; before = None } in
    let inside : q < length last = point_inside last turns c.self.invariant q (subst (λ (v : List (List WayStep)). q < length v) (sym c.self.view_is) c.requires.point) in
    let vacant : get_or last q 0 ≡ nowhere = vacant_at last turns c.self.invariant q inside (subst (λ (v : List (List WayStep)). turns_at v q ≡ []) (sym c.self.view_is) c.requires.fresh) in
    let items : c.push.new.self.items ≡ turns ++ t ∷ [] = c.in_ok-push.ensures.items in
    let number : c.len-number.result ≡ length turns = omega (arith, c.len-number.ensures) in
    rw (items, number) (turns_more last turns c.self.invariant q inside vacant t (λ j b. absurd (let k : ⊥ = cc in k)))

pub returns : goal.returns
returns c =
    let last : List ℕ = c.self.inside.last.items in
    let turns : List Turn = c.self.inside.turns.items in
    let q : ℕ = c.args.point in
    let t : Turn = record { step = step q c.args.kind; before = None } in
    let inside : q < length last = point_inside last turns c.self.invariant q (subst (λ (v : List (List WayStep)). q < length v) (sym c.self.view_is) c.requires.point) in
    let vacant : get_or last q 0 ≡ nowhere = vacant_at last turns c.self.invariant q inside (subst (λ (v : List (List WayStep)). turns_at v q ≡ []) (sym c.self.view_is) c.requires.fresh) in
    let items : c.push.new.self.items ≡ turns ++ t ∷ [] = c.in_ok-push.ensures.items in
    let number : c.len-number.result ≡ length turns = omega (arith, c.len-number.ensures) in
    ap (λ (ts : List Turn). map (chain_at (chains_of ts)) (set last q c.len-number.result)) items
    ∙ (ap (λ (n : ℕ). map (chain_at (chains_of (turns ++ t ∷ []))) (set last q n)) number
    ∙ (view_more last turns c.self.invariant q inside vacant t ∙ ap (λ (v : List (List WayStep)). set v q (step q c.args.kind ∷ [])) c.self.view_is))
