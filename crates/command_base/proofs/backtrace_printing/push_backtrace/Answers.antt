use Rattle.std.proofs.Common.{◌≡◌, ℕ, ◌++◌, List, sym, ap, subst, ◌∙◌}
use Rattle.kept_states.specs.LevelStates.{at}
use Rattle.command_base.specs.Backtrace.{address_by, holder_of}
use Rattle.command_base.specs.BacktraceCases.{told_by}
use Rattle.command_base.specs.BacktraceText.{backtrace_text, holder_line, state_line}
use Rattle.command_base.proofs.BacktraceParts.{backtrace_is, on_ok}
use Rattle.command_base.proofs.backtrace_printing.push_backtrace.Goals as goal

pub returns : goal.returns
returns c p tells =
    let o = c.args.sources.now.object.now in
    let holder = c.holder_of-holder.ensures ∙ ap (λ e. holder_of e c.address_of-address.result) c.requires.index ∙ ap (holder_of o) (c.address_of-address.ensures p tells ∙ ap (address_by p c.args.case.now.warning.place) c.or.ensures) in
    on_ok c.push_see.result _ _
    (backtrace_is o c.args.sources.now.input.now p c.args.case.now.warning.rule (told_by o p (at c.args.sources.now.kept.now) c.args.sources.now.ways c.args.case.now)
    c.args.into.now.items c.push_holder.new.into.items c.push_kept.new.into.items c.push_way.new.into.items c.push_other_way.new.into.items c.push_see.new.into.items
    (c.in_ok-push_holder.ensures ∙ ap (λ h. c.args.into.now.items ++ holder_line o c.args.sources.now.input.now h) holder)
    (c.in_ok-push_kept.ensures ∙ ap (λ s. c.push_holder.new.into.items ++ state_line s) c.state_of.ensures)
    (c.in_ok-push_way.ensures p tells) (c.in_ok-push_other_way.ensures p tells))
    c.push_see.ensures
