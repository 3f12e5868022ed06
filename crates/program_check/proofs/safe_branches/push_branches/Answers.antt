-- One point more, and at the end every point.
use Rattle.std.proofs.Common.{◌≡◌, ℕ, subst, arith}
use Rattle.stack_rules.specs.Gains.{Gains}
use Rattle.stack_rules.proofs.GainsLemmas.{OfBelow, gains_number}
use Rattle.program_check.specs.Branches.{PointWarns}
use Rattle.program_check.proofs.safe_branches.push_branches.Goals as goal

pub loop-n-preserved : goal.loop-n-preserved
loop-n-preserved c p allowed t a =
    gains_number c.args.warnings.now.items c.loop-n.warnings.items c.push_point.new.into.items (PointWarns p allowed c.args.options) c.loop-n.n (c.loop-n.invariant p allowed t a) (c.in_ok-push_point.ensures p allowed t a)

pub returns-clause-asked : goal.returns-clause-asked
returns-clause-asked c p allowed t a =
    let all : c.loop-n.n ≡ p.count = omega (arith, c.loop-n-test.false, c.loop-n.auto.n-end, c.points-n-end.ensures.count p t) in
    subst (λ (n : ℕ). Gains c.args.warnings.now.items c.loop-n.warnings.items (OfBelow n (PointWarns p allowed c.args.options))) all (c.loop-n.invariant p allowed t a)
