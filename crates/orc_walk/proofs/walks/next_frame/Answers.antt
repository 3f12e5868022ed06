use Rattle.std.proofs.Common.{ap, sym, ◌∙◌}
use Rattle.std.proofs.lemmas.Result.{err_from_is_err_and}
use Rattle.table_defs.specs.Placement.{is_inside}
use Rattle.table_defs.specs.Lookup.{find_row}
use Rattle.table_defs.specs.Walk.{outside, no_row, stops}
use Rattle.orc_walk.proofs.walks.next_frame.Goals as goal

pub returns-then-not-inside-clause-frame : goal.returns-then-not-inside-clause-frame
returns-then-not-inside-clause-frame c = λ rows ranges is. outside (ap (is_inside ranges) (sym c.lookup_address-addr.ensures) ∙ sym (is.inside c.lookup_address-addr.result) ∙ sym c.inside.ensures ∙ c.if-not-inside.true)

pub returns-in_default-clause-frame : goal.returns-in_default-clause-frame
returns-in_default-clause-frame c = λ rows ranges is. no_row
    (ap (is_inside ranges) (sym c.lookup_address-addr.ensures) ∙ sym (is.inside c.lookup_address-addr.result) ∙ sym c.inside.ensures ∙ c.if-not-inside.false)
    (ap (find_row rows ranges) (sym c.lookup_address-addr.ensures) ∙ sym (is.found c.lookup_address-addr.result) ∙ sym c.find.ensures.found ∙ c.in_default.is)

pub returns-in_err-frame-clause-frame : goal.returns-in_err-frame-clause-frame
returns-in_err-frame-clause-frame c =
    let p = err_from_is_err_and c.from_residual.result c.from_residual.ensures.1 in
    rw (p.1, p.2) (λ rows ranges is. stops
    (ap (is_inside ranges) (sym c.lookup_address-addr.ensures) ∙ sym (is.inside c.lookup_address-addr.result) ∙ sym c.inside.ensures ∙ c.if-not-inside.false)
    (ap (find_row rows ranges) (sym c.lookup_address-addr.ensures) ∙ sym (is.found c.lookup_address-addr.result) ∙ sym c.find.ensures.found ∙ c.in-Some.is)
    (sym c.in_err-frame.ensures.value))
