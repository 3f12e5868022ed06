use Rattle.std.proofs.Common.{◌≡◌, ◌++◌, subst, ◌∙◌}
use Rattle.std.specs.Prelude.{OnOk, codes}
use Rattle.command_base.specs.BacktraceText.{steps_line}
use Rattle.command_base.proofs.backtrace_printing.push_other_way.Goals as goal

pub returns : goal.returns
returns c p tells =
    subst (λ steps. OnOk c.push_steps.result (c.push_steps.new.into.items ≡ c.args.into.now.items ++ steps_line c.args.sources.now.object.now p (codes "other way") steps))
    (c.deref.ensures.value ∙ c.in_ok-turns_along.ensures) (c.push_steps.ensures p tells)
