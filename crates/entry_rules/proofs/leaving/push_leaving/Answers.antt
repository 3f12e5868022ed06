-- One point more, and at the end every point.
use Rattle.std.proofs.Common.{◌≡◌, ℕ, subst, arith}
use Rattle.stack_rules.specs.Gains.{Gains}
use Rattle.stack_rules.proofs.GainsLemmas.{OfBelow, gains_number}
use Rattle.entry_rules.specs.PointWarns.{PointLeaves}
use Rattle.entry_rules.proofs.leaving.push_leaving.Goals as goal

pub loop-n-preserved : goal.loop-n-preserved
loop-n-preserved c p facts knows =
    gains_number c.args.into.now.items c.loop-n.into.items c.push_leaving_point.new.into.items (PointLeaves p facts) c.loop-n.n (c.loop-n.invariant p facts knows) (c.in_ok-push_leaving_point.ensures p facts knows)

pub returns : goal.returns
returns c p facts knows =
    let all : c.loop-n.n ≡ p.count = omega (arith, c.loop-n-test.false, c.loop-n.auto.n-end, c.points-n-end.ensures.count p knows.tells) in
    subst (λ (n : ℕ). Gains c.args.into.now.items c.loop-n.into.items (OfBelow n (PointLeaves p facts))) all (c.loop-n.invariant p facts knows)
