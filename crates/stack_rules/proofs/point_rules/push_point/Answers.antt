-- At a quiet point nothing is told.
use Rattle.stack_rules.specs.PointWarns.{PointWarns}
use Rattle.stack_rules.proofs.GainsLemmas.{gains_none}
use Rattle.stack_rules.proofs.QuietPoints.{quiet_warns_nothing}
use Rattle.stack_rules.proofs.QuietExits.{quiet_exit_warns_nothing}
use Rattle.stack_rules.proofs.point_rules.push_point.Goals as goal

pub returns-then-branch-clause-warnings : goal.returns-then-branch-clause-warnings
returns-then-branch-clause-warnings c p ch =
    gains_none c.args.into.now.items (PointWarns p c.args.kept.now c.args.n) (λ w. quiet_warns_nothing p c.args.kept.now c.args.n w (c.in_ok-is_quiet_jump.ensures.quiet c.if-branch.true p ch.tells))

pub returns-then-is_quiet_exit-clause-warnings : goal.returns-then-is_quiet_exit-clause-warnings
returns-then-is_quiet_exit-clause-warnings c p ch =
    gains_none c.args.into.now.items (PointWarns p c.args.kept.now c.args.n) (λ w. quiet_exit_warns_nothing p c.args.kept.now c.args.n w (c.is_quiet_exit.ensures c.if-is_quiet_exit.true p ch.tells))
