use Rattle.std.proofs.Common.{◌++◌, refl}
use Rattle.std.specs.Prelude.{codes}
use Rattle.command_base.specs.BacktraceText.{step_text}
use Rattle.command_base.proofs.PartLemmas.{pushed_more}
use Rattle.command_base.proofs.backtrace_text.push_further.Goals as goal

pub loop-step-preserved : goal.loop-step-preserved
loop-step-preserved c p tells =
    pushed_more (λ s. codes ", " ++ step_text c.args.object.now p s) c.args.steps.now c.loop-step.step-index _ c.args.into.now.items c.loop-step.into.items _ c.push_step.new.into.items (codes ", ") _ c.loop-step-test.true
    (c.loop-step.invariant p tells) c.in_ok-push_words.ensures.ok (c.in_ok-push_step.ensures p tells) refl
