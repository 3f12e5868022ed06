use Rattle.std.proofs.Common.{ap, sym, subst, ◌∙◌, arith}
use Rattle.std.proofs.lemmas.Result.{err_from_is_err_and}
use Rattle.ot_base.specs.CountedItems.{CountedItems}
use Rattle.orc_walk.specs.Rows.{rows_of}
use Rattle.orc_merge.specs.Merged.{IsMergedTable}
use Rattle.orc_merge.specs.TableBytes.{table_bytes}
use Rattle.orc_merge.proofs.ParseEnds.{head_told, address_told, items_told, no_table, same_rows, whole, is_table, few_items}
use Rattle.orc_merge.proofs.merged.Merged.parse.Goals as goal

pub returns-in_err-count-clause-fault : goal.returns-in_err-count-clause-fault
returns-in_err-count-clause-fault c =
    let p = err_from_is_err_and c.from_residual.result c.from_residual.ensures.1 in
    rw (p.1, p.2) (head_told c.args.bytes.now _ c.in_err-count.ensures.fault)

pub returns-in_err-count-clause-accepts : goal.returns-in_err-count-clause-accepts
returns-in_err-count-clause-accepts c = λ rows is same.
    let p = err_from_is_err_and c.from_residual.result c.from_residual.ensures.1 in
    rw (p.1, p.2) (no_table c.args.bytes.now _ (head_told c.args.bytes.now _ c.in_err-count.ensures.fault) rows is same)

pub returns-in_err-check_addresses-clause-fault : goal.returns-in_err-check_addresses-clause-fault
returns-in_err-check_addresses-clause-fault c =
    let p = err_from_is_err_and c.from_residual-in_err-check_addresses.result c.from_residual-in_err-check_addresses.ensures.1 in
    rw (p.1, p.2) (address_told c.args.bytes.now c.in_ok-count.count _ c.in_ok-count.ensures.head c.in_err-check_addresses.ensures.fault)

pub returns-in_err-check_addresses-clause-accepts : goal.returns-in_err-check_addresses-clause-accepts
returns-in_err-check_addresses-clause-accepts c = λ rows is same.
    let p = err_from_is_err_and c.from_residual-in_err-check_addresses.result c.from_residual-in_err-check_addresses.ensures.1 in
    rw (p.1, p.2) (no_table c.args.bytes.now _ (address_told c.args.bytes.now c.in_ok-count.count _ c.in_ok-count.ensures.head c.in_err-check_addresses.ensures.fault) rows is same)

pub returns-in_err-items-clause-fault : goal.returns-in_err-items-clause-fault
returns-in_err-items-clause-fault c =
    let p = err_from_is_err_and c.from_residual-in_err-items.result c.from_residual-in_err-items.ensures.1 in
    rw (p.1, p.2) (items_told c.args.bytes.now c.in_ok-count.count _ c.in_ok-count.ensures.head c.in_ok-check_addresses.ensures.ascend c.in_err-items.ensures.fault)

pub returns-in_err-items-clause-accepts : goal.returns-in_err-items-clause-accepts
returns-in_err-items-clause-accepts c = λ rows is same.
    let p = err_from_is_err_and c.from_residual-in_err-items.result c.from_residual-in_err-items.ensures.1 in
    rw (p.1, p.2) (no_table c.args.bytes.now _ (items_told c.args.bytes.now c.in_ok-count.count _ c.in_ok-count.ensures.head c.in_ok-check_addresses.ensures.ascend c.in_err-items.ensures.fault) rows is same)

pub build-requires : goal.build-requires
build-requires c = few_items c.args.bytes.now c.in_ok-count.count c.in_ok-items.items.items c.in_ok-count.ensures.head c.in_ok-items.ensures.rows

pub returns-clause-rows : goal.returns-clause-rows
returns-clause-rows c =
    ap (λ (t : CountedItems). table_bytes (rows_of t.items)) c.build.ensures
    ∙ whole c.args.bytes.now c.in_ok-count.count (rows_of c.in_ok-items.items.items) (λ k. let small = c.type_inv.bytes k in omega (arith, small.fits)) c.in_ok-count.ensures.head c.in_ok-items.ensures.clean c.in_ok-items.ensures.rows

pub returns-clause-again : goal.returns-clause-again
returns-clause-again c = λ rows is same.
    ap (λ (t : CountedItems). rows_of t.items) c.build.ensures
    ∙ same_rows c.args.bytes.now c.in_ok-count.count (rows_of c.in_ok-items.items.items) c.in_ok-count.ensures.head c.in_ok-items.ensures.rows rows is same

pub invariant_of-result : goal.invariant_of-result
invariant_of-result c =
    subst (λ (t : CountedItems). IsMergedTable (rows_of t.items)) (sym c.build.ensures)
    (is_table c.args.bytes.now c.in_ok-count.count (rows_of c.in_ok-items.items.items) (λ k. let small = c.type_inv.bytes k in omega (arith, small.fits)) c.in_ok-count.ensures.head c.in_ok-items.ensures.clean c.in_ok-items.ensures.rows)
