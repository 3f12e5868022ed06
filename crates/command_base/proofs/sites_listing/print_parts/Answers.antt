use Rattle.std.proofs.lemmas.Result.{err_from_is_err_and}
use Rattle.site_lists.specs.Listed.{listed}
use Rattle.command_base.proofs.SiteLines.{first_list_fails, second_list_fails, third_list_fails}
use Rattle.command_base.proofs.sites_listing.print_parts.Goals as goal

pub returns-in_err-print_places-clause-err : goal.returns-in_err-print_places-clause-err
returns-in_err-print_places-clause-err g c =
    let p = err_from_is_err_and c.from_residual.result c.from_residual.ensures.1 in
    rw (p.1, p.2) (first_list_fails c.args.object.now (listed c.args.lists.now) c.deref.result.now _ _ _ c.deref.ensures.value c.in_err-print_places.ensures.err)

pub returns-in_err-print_places-2-clause-err : goal.returns-in_err-print_places-2-clause-err
returns-in_err-print_places-2-clause-err g c =
    let p = err_from_is_err_and c.from_residual-in_err-print_places-2.result c.from_residual-in_err-print_places-2.ensures.1 in
    rw (p.1, p.2)
    (second_list_fails c.args.object.now (listed c.args.lists.now) c.deref.result.now c.deref-2.result.now _ _ _ _ c.deref.ensures.value c.deref-2.ensures.value c.in_ok-print_places.ensures.ok c.print_places.ensures.later
    c.in_err-print_places-2.ensures.err)

pub returns-in_err-print_places-3-clause-err : goal.returns-in_err-print_places-3-clause-err
returns-in_err-print_places-3-clause-err g c =
    let p = err_from_is_err_and c.from_residual-in_err-print_places-3.result c.from_residual-in_err-print_places-3.ensures.1 in
    rw (p.1, p.2)
    (third_list_fails c.args.object.now (listed c.args.lists.now) c.deref.result.now c.deref-2.result.now c.deref-3.result.now _ _ _ _ _ c.deref.ensures.value c.deref-2.ensures.value c.deref-3.ensures.value c.in_ok-print_places.ensures.ok
    c.in_ok-print_places-2.ensures.ok c.print_places.ensures.later c.print_places-2.ensures.later c.in_err-print_places-3.ensures.err)
