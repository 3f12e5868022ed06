-- A way is noted where a turn is named.
use Rattle.std.proofs.Common.{◌≡◌, ◌≢◌, ℕ, ◌<◌, List, [], length, get_or, sym, ◌∙◌, subst, arith}
use Rattle.state_ways.specs.declared.steps.WayStep.{WayStep}
use Rattle.state_ways.specs.declared.ways.Turn.{Turn}
use Rattle.state_ways.specs.Turns.{nowhere}
use Rattle.state_ways.specs.Ways.{turns_at}
use Rattle.state_ways.proofs.Chains.{hidden, point_inside, read_last, vacant_at}
use Rattle.state_ways.proofs.ways.Ways.is_shown.Goals as goal

pub returns : goal.returns
returns c =
    let last : List ℕ = c.self.inside.last.items in
    let turns : List Turn = c.self.inside.turns.items in
    let q : ℕ = c.args.point in
    let inside : q < length last = point_inside last turns c.self.invariant q (subst (λ (v : List (List WayStep)). q < length v) (sym c.self.view_is) c.requires) in
    let read : c.index.result.now ≡ get_or last q 0 = read_last last q c.index.result.now inside c.index.ensures in (
      λ t e. let k : get_or last q 0 ≡ nowhere = vacant_at last turns c.self.invariant q inside (subst (λ (v : List (List WayStep)). turns_at v q ≡ []) (sym c.self.view_is) e) in let l : c.index.result.now ≡ nowhere = read ∙ k in (grind arith),
      λ ne. let l : c.index.result.now ≢ nowhere = (λ k. ne (subst (λ (v : List (List WayStep)). turns_at v q ≡ []) c.self.view_is (hidden last turns c.self.invariant q inside (sym read ∙ k)))) in (grind arith),
    )
