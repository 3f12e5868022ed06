-- At the end all points in front have given.
use Rattle.std.proofs.Common.{◌≡◌, ℕ, length, subst, arith}
use Rattle.kept_states.specs.Told.{HaveGiven}
use Rattle.kept_states.proofs.DonePoints.{done_still}
use Rattle.kept_states.proofs.spreading.give_all.Goals as goal

pub returns-clause-given : goal.returns-clause-given
returns-clause-given c p t =
    let e : c.loop-i.i ≡ length c.args.levels.now.front = omega (arith, c.front_len-i-end.ensures.len) in
    subst (λ (i : ℕ). HaveGiven p c.loop-i.levels i) e (c.loop-i.invariant.given p t)

pub give-requires-clause-done : goal.give-requires-clause-done
give-requires-clause-done c p t = done_still p c.args.levels.now c.loop-i.levels c.loop-i.invariant.kept c.loop-i.invariant.done c.loop-i.invariant.same (c.requires.done p t)
