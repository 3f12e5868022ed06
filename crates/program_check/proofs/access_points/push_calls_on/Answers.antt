-- Control comes with user access on.
use Rattle.stack_rules.proofs.GainsLemmas.{gains_same}
use Rattle.program_check.specs.PointWarns.{CallWarns}
use Rattle.program_check.specs.Ways.{IsOn}
use Rattle.program_check.proofs.access_points.push_calls_on.Goals as goal

pub returns-in_ok-push_calls : goal.returns-in_ok-push_calls
returns-in_ok-push_calls c p allowed t =
    gains_same _ _ (CallWarns p allowed c.args.n) (λ w. IsOn c.args.ways × CallWarns p allowed c.args.n w) (c.in_ok-push_calls.ensures p allowed t) (λ w. (λ k. (c.is_on.ensures.0 c.if-is_on.true, k), λ k. k.1))
