-- At the end all states that are kept have numbers.
use Rattle.std.proofs.Common.{◌≡◌, ℕ, length, sym, subst, arith}
use Rattle.state_pool.specs.Counted.{AreNumbered, IsStateCount}
use Rattle.state_pool.proofs.Numbered.{all_numbered}
use Rattle.state_pool.proofs.counting.count_states.Goals as goal

pub returns : goal.returns
returns c =
    let all : c.loop-n.n ≡ length c.args.kept.now = omega (arith, c.loop-n-test.false, c.loop-n.auto.n-end, c.requires.points) in
    subst (λ (n : ℕ). IsStateCount c.args.kept.now n) (sym c.len.ensures.len)
    (all_numbered c.args.kept.now c.loop-n.pool.states (subst (λ (n : ℕ). AreNumbered c.args.kept.now n c.loop-n.pool.states) all c.loop-n.invariant.numbered))
