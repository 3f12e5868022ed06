-- The point names the turn that the other one names.
use Rattle.std.proofs.Common.{◌≡◌, ℕ, ◌<◌, List, [], length, map, get_or, set, ap, sym, ◌∙◌, subst}
use Rattle.state_ways.specs.declared.steps.WayStep.{WayStep}
use Rattle.state_ways.specs.declared.ways.Turn.{Turn}
use Rattle.state_ways.specs.Turns.{chain_at, chains_of, nowhere}
use Rattle.state_ways.specs.Ways.{turns_at}
use Rattle.state_ways.proofs.Chains.{point_inside, read_last, turns_passed, vacant_at, view_passed}
use Rattle.state_ways.proofs.ways.Ways.pass.Goals as goal

pub invariant_of-self : goal.invariant_of-self
invariant_of-self c =
    let last : List ℕ = c.self.inside.last.items in
    let turns : List Turn = c.self.inside.turns.items in
    let q : ℕ = c.args.point in
    let inside : q < length last = point_inside last turns c.self.invariant q (subst (λ (v : List (List WayStep)). q < length v) (sym c.self.view_is) c.requires.point) in
    let from : c.args.from < length last = point_inside last turns c.self.invariant c.args.from (subst (λ (v : List (List WayStep)). c.args.from < length v) (sym c.self.view_is) c.requires.from) in
    let vacant : get_or last q 0 ≡ nowhere = vacant_at last turns c.self.invariant q inside (subst (λ (v : List (List WayStep)). turns_at v q ≡ []) (sym c.self.view_is) c.requires.fresh) in
    let read : c.index-last.result.now ≡ get_or last c.args.from 0 = read_last last c.args.from c.index-last.result.now from c.index-last.ensures in
    rw read (turns_passed last turns c.self.invariant q inside vacant (get_or last c.args.from 0) (c.self.invariant.named c.args.from 0 from))

pub returns : goal.returns
returns c =
    let last : List ℕ = c.self.inside.last.items in
    let turns : List Turn = c.self.inside.turns.items in
    let q : ℕ = c.args.point in
    let inside : q < length last = point_inside last turns c.self.invariant q (subst (λ (v : List (List WayStep)). q < length v) (sym c.self.view_is) c.requires.point) in
    let from : c.args.from < length last = point_inside last turns c.self.invariant c.args.from (subst (λ (v : List (List WayStep)). c.args.from < length v) (sym c.self.view_is) c.requires.from) in
    let vacant : get_or last q 0 ≡ nowhere = vacant_at last turns c.self.invariant q inside (subst (λ (v : List (List WayStep)). turns_at v q ≡ []) (sym c.self.view_is) c.requires.fresh) in
    let read : c.index-last.result.now ≡ get_or last c.args.from 0 = read_last last c.args.from c.index-last.result.now from c.index-last.ensures in
    ap (λ (n : ℕ). map (chain_at (chains_of turns)) (set last q n)) read
    ∙ (view_passed last turns c.self.invariant q inside vacant c.args.from from ∙ ap (λ (v : List (List WayStep)). set v q (turns_at v c.args.from)) c.self.view_is)
