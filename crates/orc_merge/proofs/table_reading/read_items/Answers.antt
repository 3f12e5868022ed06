use Rattle.std.proofs.Common.{◌≡◌, ℕ, ◌+◌, ◌*◌, ◌∙◌, ap, sym, inr, refl, arith}
use Rattle.ot_base.specs.declared.row.Row.{Row}
use Rattle.orc_walk.specs.Rows.{addressed_row, rows_of}
use Rattle.orc_bytes.proofs.Decoding.{row_tail_is, tail_is}
use Rattle.orc_merge.specs.TableFaults.{holds_row}
use Rattle.orc_merge.specs.TableRows.{rows_read}
use Rattle.orc_merge.proofs.TableLemmas.{next_row_read}
use Rattle.orc_merge.proofs.TableSteps.{item_read, next_row_before, rows_push, wrong_fields, wrong_order, right_row, right_rows}
use Rattle.orc_merge.proofs.table_reading.read_items.Goals as goal

pub returns-in_default-clause-fault : goal.returns-in_default-clause-fault
returns-in_default-clause-fault c =
    let at = 16 + 8 * c.args.count + 6 * c.loop-i.i in
    inr (at, wrong_fields c.args.bytes.now c.args.count c.loop-i.i c.requires c.loop-i-test.true c.loop-i.invariant.clean (ap holds_row (sym (tail_is at c.args.bytes.now)) ∙ c.in_default.ensures.none), refl)

pub returns-then-comes_before-clause-fault : goal.returns-then-comes_before-clause-fault
returns-then-comes_before-clause-fault c =
    let at = 16 + 8 * c.args.count + 6 * c.loop-i.i in
    let item : ℕ × Row = (c.address.result, c.in-Some.row) in
    let is = item_read c.args.bytes.now c.args.count c.loop-i.i item c.requires c.address.ensures (row_tail_is at c.args.bytes.now c.in-Some.row c.in-Some.ensures.some.0) in
    inr (at, wrong_order c.args.bytes.now c.args.count c.loop-i.i (addressed_row item) (addressed_row c.loop-i.before) c.requires c.loop-i-test.true c.loop-i.invariant.clean is c.loop-i.invariant.before (sym c.comes_before.ensures ∙ c.if-comes_before.true), refl)

pub loop-i-preserved : goal.loop-i-preserved
loop-i-preserved c =
    let at = 16 + 8 * c.args.count + 6 * c.loop-i.i in
    let item : ℕ × Row = (c.address.result, c.in-Some.row) in
    let is = item_read c.args.bytes.now c.args.count c.loop-i.i item c.requires c.address.ensures (row_tail_is at c.args.bytes.now c.in-Some.row c.in-Some.ensures.some.0) in
    let holds = ap holds_row (sym (tail_is at c.args.bytes.now)) ∙ c.in-Some.ensures.test in
    record {
      rows = ap rows_of c.in_ok-push.ensures.items ∙ rows_push c.loop-i.items.items item ∙ next_row_read c.args.bytes.now c.loop-i.i (rows_of c.loop-i.items.items) (addressed_row item) c.loop-i.invariant.rows is;
      clean = right_row c.args.bytes.now c.args.count c.loop-i.i (addressed_row item) (addressed_row c.loop-i.before) c.requires c.loop-i.invariant.clean holds is c.loop-i.invariant.before (sym c.comes_before.ensures ∙ c.if-comes_before.false);
      before = next_row_before c.args.bytes.now c.loop-i.i (addressed_row item) is;
    }

pub returns-clause-rows : goal.returns-clause-rows
returns-clause-rows c =
    let all : c.loop-i.i ≡ c.args.count = omega arith in
    c.loop-i.invariant.rows ∙ ap (rows_read c.args.bytes.now) all

pub returns-clause-clean : goal.returns-clause-clean
returns-clause-clean c = right_rows c.args.bytes.now c.args.count c.loop-i.i c.requires (omega arith) c.loop-i.invariant.clean
