use Rattle.std.proofs.Common.{sym, subst, ap, ◌∙◌}
use Rattle.command_base.specs.declared.status.Status.{Status}
use Rattle.command_base.specs.Printing.{IsOutputFault, ended}
use Rattle.command_base.proofs.PrintLemmas.{ended_fault, prints}
use Rattle.command_base.proofs.printing.print_line.Goals as goal

pub returns-clause-printed : goal.returns-clause-printed
returns-clause-printed g c =
    let e = c.ended.ensures in
    rw e (prints c.args.line.now _ _ c.args.status c.write_line.result c.write_line.ensures.ok c.write_line.ensures.err c.write_line.ensures.failed)

pub returns-clause-output_failed : goal.returns-clause-output_failed
returns-clause-output_failed g c risen =
    let e = c.ended.ensures ∙ ap (ended c.args.status) (c.write_line.ensures.only_failed risen) in
    subst IsOutputFault (sym e) (ended_fault c.args.status)
