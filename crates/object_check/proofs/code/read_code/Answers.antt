use Rattle.std.proofs.Common.{◌≤◌, length, subst, sym}
use Rattle.std.specs.Prelude.{IfErr, IfOk}
use Rattle.std.proofs.lemmas.Result.{err_from_is_err_and}
use Rattle.elf_objects.specs.declared.TheConstants.{MAX_FILE_BYTES as most_bytes}
use Rattle.flow_defs.specs.Coded.{Coded, coded_by}
use Rattle.object_check.specs.Code.{IsCodeFault, IsCodeOf}
use Rattle.object_check.proofs.Faults.{link_told}
use Rattle.object_check.proofs.code.read_code.Goals as goal

pub returns-in_err-linked-clause-err : goal.returns-in_err-linked-clause-err
returns-in_err-linked-clause-err c =
    let here = link_told (coded_by c.args.map c.args.object.now) c.args.lists.now c.in_err-linked.field-0.0 c.in_err-linked.ensures.err in
    let p = err_from_is_err_and c.from_residual.result c.from_residual.ensures.1 in
    rw (p.1, p.2) here

pub code_of-requires-clause-short : goal.code_of-requires-clause-short
code_of-requires-clause-short c = subst (λ (e : Coded). length e.elf.bytes ≤ most_bytes) (sym c.in_ok-linked.ensures.ok) c.requires

pub returns-clause-ok : goal.returns-clause-ok
returns-clause-ok c = subst (λ (e : Coded). IfOk c.code_of.result (IsCodeOf e c.args.lists.now c.args.options)) c.in_ok-linked.ensures.ok c.code_of.ensures.ok

pub returns-clause-err : goal.returns-clause-err
returns-clause-err c = subst (λ (e : Coded). IfErr c.code_of.result (IsCodeFault e c.args.lists.now)) c.in_ok-linked.ensures.ok c.code_of.ensures.err
