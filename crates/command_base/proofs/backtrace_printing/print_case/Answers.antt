use Rattle.std.proofs.Common.{◌≡◌, ap, subst, ◌∙◌, ◌++◌, sym}
use Rattle.std.specs.Prelude.{IfErr, OnOk}
use Rattle.ot_files.specs.Output.{appending}
use Rattle.kept_states.specs.LevelStates.{at}
use Rattle.command_base.specs.Printing.{FailsToPrint}
use Rattle.command_base.proofs.PrintLemmas.{nothing_sent}
use Rattle.command_base.specs.BacktraceCases.{case_text}
use Rattle.command_base.proofs.backtrace_printing.print_case.Goals as goal

pub returns-in-Ok-clause-ok : goal.returns-in-Ok-clause-ok
returns-in-Ok-clause-ok g c p tells =
    let text = case_text c.args.sources.now.object.now c.args.sources.now.input.now p (at c.args.sources.now.kept.now) c.args.sources.now.ways c.args.case.now in
    let is = c.as_slice.ensures.value ∙ c.in-Ok.ensures p tells ∙ ap (λ xs. xs ++ text) c.clear.ensures.items in
    subst (λ line. OnOk c.print_part.result (g.S.Sink.written c.print_part.new.out ≡ appending (g.S.Sink.written c.args.out.now) line)) is c.print_part.ensures.ok

pub returns-in-Ok-clause-err : goal.returns-in-Ok-clause-err
returns-in-Ok-clause-err g c p tells =
    let text = case_text c.args.sources.now.object.now c.args.sources.now.input.now p (at c.args.sources.now.kept.now) c.args.sources.now.ways c.args.case.now in
    let is = c.as_slice.ensures.value ∙ c.in-Ok.ensures p tells ∙ ap (λ xs. xs ++ text) c.clear.ensures.items in
    subst (λ line. IfErr c.print_part.result (FailsToPrint line (record { written = g.S.Sink.written c.args.out.now; faults = g.S.Sink.faults c.args.out.now }) (record { written = g.S.Sink.written c.print_part.new.out; faults = g.S.Sink.faults c.print_part.new.out }))) is c.print_part.ensures.err

pub returns-in-Err-clause-err : goal.returns-in-Err-clause-err
returns-in-Err-clause-err g c p tells = nothing_sent _ _
