use Rattle.std.proofs.lemmas.Result.{err_from_is_err_and}
use Rattle.flow_defs.specs.Coded.{coded_by}
use Rattle.objtool_cli.proofs.BacktraceLemmas.{code_unread}
use Rattle.objtool_cli.proofs.telling.read_again.Goals as goal

pub returns-in_err-code-clause-err : goal.returns-in_err-code-clause-err
returns-in_err-code-clause-err c =
    let here = code_unread (coded_by c.args.options.map c.args.object.now) c.args.lists.now c.in_err-code.field-0.0 c.in_err-code.ensures.err in
    let p = err_from_is_err_and c.from_residual.result c.from_residual.ensures.1 in
    rw (p.1, p.2) here
