use Rattle.std.proofs.lemmas.Result.{err_from_is_err_and}
use Rattle.special_sections.proofs.FirstFault.{tells_front, tells_behind, none_in_both}
use Rattle.special_sections.proofs.special.Places.read.Goals as goal

pub returns-in_err-after_reachable-clause-err : goal.returns-in_err-after_reachable-clause-err
returns-in_err-after_reachable-clause-err c =
    let p = err_from_is_err_and c.from_residual.result c.from_residual.ensures.1 in
    rw (p.1, p.2) (tells_front _ _ _ c.in_err-after_reachable.ensures.err)

pub returns-in_err-after_unreachable-clause-err : goal.returns-in_err-after_unreachable-clause-err
returns-in_err-after_unreachable-clause-err c =
    let p = err_from_is_err_and c.from_residual-in_err-after_unreachable.result c.from_residual-in_err-after_unreachable.ensures.1 in
    rw (p.1, p.2) (tells_behind _ _ _ c.in_ok-after_reachable.ensures.right (tells_front _ _ _ c.in_err-after_unreachable.ensures.err))

pub returns-in_err-unchecked-clause-err : goal.returns-in_err-unchecked-clause-err
returns-in_err-unchecked-clause-err c =
    let p = err_from_is_err_and c.from_residual-in_err-unchecked.result c.from_residual-in_err-unchecked.ensures.1 in
    rw (p.1, p.2) (tells_behind _ _ _ c.in_ok-after_reachable.ensures.right (tells_behind _ _ _ c.in_ok-after_unreachable.ensures.right (tells_front _ _ _ c.in_err-unchecked.ensures.err)))

pub returns-in_err-safe_branches-clause-err : goal.returns-in_err-safe_branches-clause-err
returns-in_err-safe_branches-clause-err c =
    let p = err_from_is_err_and c.from_residual-in_err-safe_branches.result c.from_residual-in_err-safe_branches.ensures.1 in
    rw (p.1, p.2) (tells_behind _ _ _ c.in_ok-after_reachable.ensures.right (tells_behind _ _ _ c.in_ok-after_unreachable.ensures.right (tells_behind _ _ _ c.in_ok-unchecked.ensures.right (tells_front _ _ _ c.in_err-safe_branches.ensures.err))))

pub returns-in_err-intra_calls-clause-err : goal.returns-in_err-intra_calls-clause-err
returns-in_err-intra_calls-clause-err c =
    let p = err_from_is_err_and c.from_residual-in_err-intra_calls.result c.from_residual-in_err-intra_calls.ensures.1 in
    rw (p.1, p.2) (tells_behind _ _ _ c.in_ok-after_reachable.ensures.right (tells_behind _ _ _ c.in_ok-after_unreachable.ensures.right (tells_behind _ _ _ c.in_ok-unchecked.ensures.right (tells_behind _ _ _ c.in_ok-safe_branches.ensures.right c.in_err-intra_calls.ensures.err))))

pub returns-clause-right : goal.returns-clause-right
returns-clause-right c =
    none_in_both _ _ c.in_ok-after_reachable.ensures.right (none_in_both _ _ c.in_ok-after_unreachable.ensures.right (none_in_both _ _ c.in_ok-unchecked.ensures.right (none_in_both _ _ c.in_ok-safe_branches.ensures.right c.in_ok-intra_calls.ensures.right)))
