use Rattle.std.proofs.lemmas.Result.{err_from_is_err_and}
use Rattle.flow_defs.specs.Coded.{Coded, coded_by}
use Rattle.object_check.specs.Order.{IsCheckable, no_memory}
use Rattle.object_check.proofs.Faults.{check_told}
use Rattle.object_check.proofs.Found.{can_have_tables, is_outcome}
use Rattle.object_check.proofs.check.check_object.Goals as goal

pub check_code-requires : goal.check_code-requires
check_code-requires c = (coded_by c.args.map c.args.object.now, c.args.lists.now, c.in_ok-code.ensures.ok)

pub returns-in_err-code-clause-err : goal.returns-in_err-code-clause-err
returns-in_err-code-clause-err c =
    let here = check_told (coded_by c.args.map c.args.object.now) c.args.lists.now c.in_err-code.field-0.0 c.in_err-code.ensures.err in
    let p = err_from_is_err_and c.from_residual.result c.from_residual.ensures.1 in
    rw (p.1, p.2) here

pub returns-clause-ok : goal.returns-clause-ok
returns-clause-ok c =
    let o : Coded = coded_by c.args.map c.args.object.now in
    let code = c.in_ok-code.ensures.ok in
    let can : IsCheckable o c.args.lists.now = record { in_order = code.graph.in_order; new = c.in_ok-check_room.ensures.new; few = c.in_ok-check_room.ensures.few } in
    is_outcome o c.args.lists.now c.args.options c.in_ok-outcome.outcome can (c.in_ok-outcome.ensures.ok o c.args.lists.now code)

pub returns-clause-tables : goal.returns-clause-tables
returns-clause-tables c =
    let o : Coded = coded_by c.args.map c.args.object.now in
    let code = c.in_ok-code.ensures.ok in
    let can : IsCheckable o c.args.lists.now = record { in_order = code.graph.in_order; new = c.in_ok-check_room.ensures.new; few = c.in_ok-check_room.ensures.few } in
    can_have_tables o c.args.lists.now c.in_ok-outcome.outcome c.requires can (c.in_ok-outcome.ensures.rows o c.args.lists.now code)

pub returns-clause-unwinds : goal.returns-clause-unwinds
returns-clause-unwinds c = c.in_ok-outcome.ensures.unwinds (coded_by c.args.map c.args.object.now) c.args.lists.now c.in_ok-code.ensures.ok

pub returns-clause-promises : goal.returns-clause-promises
returns-clause-promises c = c.in_ok-outcome.ensures.promises (coded_by c.args.map c.args.object.now) c.args.lists.now c.in_ok-code.ensures.ok

pub returns-in_err-outcome-clause-err : goal.returns-in_err-outcome-clause-err
returns-in_err-outcome-clause-err c =
    let p = err_from_is_err_and c.from_residual-in_err-outcome.result c.from_residual-in_err-outcome.ensures.1 in
    rw (p.1, p.2) no_memory
