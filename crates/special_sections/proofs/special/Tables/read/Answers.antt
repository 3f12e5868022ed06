use Rattle.std.proofs.lemmas.Result.{err_from_is_err_and}
use Rattle.special_sections.proofs.FirstFault.{tells_front, tells_behind}
use Rattle.special_sections.proofs.special.Tables.read.Goals as goal

pub returns-in_err-alternatives-clause-err : goal.returns-in_err-alternatives-clause-err
returns-in_err-alternatives-clause-err c =
    let p = err_from_is_err_and c.from_residual.result c.from_residual.ensures.1 in
    rw (p.1, p.2) (tells_front _ _ _ c.in_err-alternatives.ensures.err)

pub returns-in_err-branches-clause-err : goal.returns-in_err-branches-clause-err
returns-in_err-branches-clause-err c =
    let p = err_from_is_err_and c.from_residual-in_err-branches.result c.from_residual-in_err-branches.ensures.1 in
    rw (p.1, p.2) (tells_behind _ _ _ c.in_ok-alternatives.ensures.right (tells_front _ _ _ c.in_err-branches.ensures.err))

pub returns-in_err-fixes-clause-err : goal.returns-in_err-fixes-clause-err
returns-in_err-fixes-clause-err c =
    let p = err_from_is_err_and c.from_residual-in_err-fixes.result c.from_residual-in_err-fixes.ensures.1 in
    rw (p.1, p.2) (tells_behind _ _ _ c.in_ok-alternatives.ensures.right (tells_behind _ _ _ c.in_ok-branches.ensures.right (tells_front _ _ _ c.in_err-fixes.ensures.err)))

pub returns-in_err-hints-clause-err : goal.returns-in_err-hints-clause-err
returns-in_err-hints-clause-err c =
    let p = err_from_is_err_and c.from_residual-in_err-hints.result c.from_residual-in_err-hints.ensures.1 in
    rw (p.1, p.2) (tells_behind _ _ _ c.in_ok-alternatives.ensures.right (tells_behind _ _ _ c.in_ok-branches.ensures.right (tells_behind _ _ _ c.in_ok-fixes.ensures.right (tells_front _ _ _ c.in_err-hints.ensures.err))))

pub returns-clause-right : goal.returns-clause-right
returns-clause-right c = record {
  alternatives = c.in_ok-alternatives.ensures.right;
  branches = c.in_ok-branches.ensures.right;
  fixes = c.in_ok-fixes.ensures.right;
  hints = c.in_ok-hints.ensures.right;
}
