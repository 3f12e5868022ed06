-- The points in front have their states at their places.
use Rattle.std.proofs.Common.{◌≡◌, ◌-◌, ◌<◌, ◌≤◌, ℕ, List, Some, drop, take, get_or, length, sym, ◌∙◌, subst, arith}
use Rattle.std.proofs.lemmas.List.{length-take-le, length-drop}
use Rattle.kept_states.specs.LevelStates.{LevelStates, at}
use Rattle.kept_states.specs.Packed.{state_in}
use Rattle.kept_states.proofs.Firsts.{part_state}
use Rattle.kept_states.proofs.levels.Levels.front_slot.Goals as goal

pub slot-requires : goal.slot-requires
slot-requires c =
    let reached : List ℕ = c.self.inside.reached.items in
    let from : ℕ = c.self.inside.front_from in
    let to : ℕ = c.self.inside.front_to in
    let long : c.args.i < length (drop from (take to reached)) = subst (λ (v : LevelStates). c.args.i < length v.front) (sym c.self.view_is) c.requires in
    let fits : to ≤ length reached = omega (arith, c.self.invariant.3.front_kept, c.self.invariant.2.ordered) in
    let l : length (take to reached) ≡ to = length-take-le to reached fits in
    let m : length (drop from (take to reached)) ≡ length (take to reached) - from = length-drop from (take to reached) in
    omega (arith, l, m, long, fits, c.self.invariant.2.long)

pub returns : goal.returns
returns c =
    let long : c.args.i < length (drop c.self.inside.front_from (take c.self.inside.front_to c.self.inside.reached.items)) = subst (λ (v : LevelStates). c.args.i < length v.front) (sym c.self.view_is) c.requires in (
      c.slot.ensures.0,
      subst (λ (v : LevelStates). at v.kept (get_or v.front c.args.i 0) ≡ Some (state_in c.slot.result c.slot.ensures.0)) c.self.view_is
          (part_state c.self.inside.places.items c.self.inside.reached.items c.self.inside.states.list c.self.inside.kept c.self.invariant.2 c.self.inside.front_from c.self.inside.front_to c.args.i c.self.invariant.3.front_kept long ∙ c.slot.ensures.1),
    )
