-- The points in front are kept.
use Rattle.std.proofs.Common.{◌≡◌, ◌+◌, ◌-◌, ◌<◌, ◌≤◌, ℕ, List, IsSome, drop, take, get_or, length, sym, ◌∙◌, subst, arith}
use Rattle.std.proofs.lemmas.List.{length-take-le, length-drop, get_or-take, get_or-drop}
use Rattle.kept_states.specs.LevelStates.{LevelStates, at}
use Rattle.kept_states.proofs.Firsts.{part_kept}
use Rattle.kept_states.proofs.levels.Levels.front.Goals as goal

pub returns-clause-kept : goal.returns-clause-kept
returns-clause-kept c =
    let q : ℕ = c.index.result.now in
    let reached : List ℕ = c.self.inside.reached.items in
    let from : ℕ = c.self.inside.front_from in
    let to : ℕ = c.self.inside.front_to in
    let long : c.args.i < length (drop from (take to reached)) = subst (λ (v : LevelStates). c.args.i < length v.front) (sym c.self.view_is) c.requires in
    let fits : to ≤ length reached = omega (arith, c.self.invariant.3.front_kept, c.self.invariant.2.ordered) in
    let l : length (take to reached) ≡ to = length-take-le to reached fits in
    let m : length (drop from (take to reached)) ≡ length (take to reached) - from = length-drop from (take to reached) in
    let inside : from + c.args.i < to = omega (arith, l, m, long) in
    let is : get_or (drop from (take to reached)) c.args.i q ≡ q = get_or-drop from (take to reached) c.args.i q ∙ (get_or-take to reached (from + c.args.i) q inside ∙ sym c.index.ensures) in
    subst (λ (v : LevelStates). IsSome (at v.kept q)) c.self.view_is
    (part_kept c.self.inside.places.items reached c.self.inside.states.list c.self.inside.kept c.self.invariant.2 from to q c.self.invariant.3.front_kept (c.args.i, long, is))
