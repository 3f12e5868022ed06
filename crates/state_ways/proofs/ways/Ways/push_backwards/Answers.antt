-- Where no turn is named there are none, and else those up to it.
use Rattle.std.proofs.Common.{◌≡◌, ℕ, ◌<◌, ◌++◌, List, [], length, get_or, reverse, ap, sym, ◌∙◌, subst, arith}
use Rattle.std.proofs.lemmas.List.{append-nil}
use Rattle.state_ways.specs.declared.steps.WayStep.{WayStep}
use Rattle.state_ways.specs.declared.ways.Turn.{Turn}
use Rattle.state_ways.specs.Turns.{nowhere}
use Rattle.state_ways.specs.Ways.{turns_at}
use Rattle.state_ways.proofs.Chains.{hidden, point_inside, read_last}
use Rattle.state_ways.proofs.ways.Ways.push_backwards.Goals as goal

pub returns-then-last-clause-ok : goal.returns-then-last-clause-ok
returns-then-last-clause-ok c =
    let last : List ℕ = c.self.inside.last.items in
    let turns : List Turn = c.self.inside.turns.items in
    let q : ℕ = c.args.point in
    let inside : q < length last = point_inside last turns c.self.invariant q (subst (λ (v : List (List WayStep)). q < length v) (sym c.self.view_is) c.requires) in
    let read : c.index-last.result.now ≡ get_or last q 0 = read_last last q c.index-last.result.now inside c.index-last.ensures in
    let none : turns_at c.args.self.now q ≡ [] = subst (λ (v : List (List WayStep)). turns_at v q ≡ []) c.self.view_is (hidden last turns c.self.invariant q inside (sym read ∙ (let e : c.index-last.result.now ≡ nowhere = omega (arith, c.if-last.true) in e))) in
    sym (ap (λ (w : List WayStep). c.args.into.now.items ++ reverse w) none ∙ append-nil c.args.into.now.items)
