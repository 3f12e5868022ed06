use Rattle.std.proofs.Common.{◌≡◌, None}
use Rattle.orc_walk.specs.Rows.{addressed_row, rows_of}
use Rattle.orc_merge.specs.TableFaults.{first_below, is_wrong_row, row_before}
use Rattle.orc_merge.specs.TableRows.{rows_read}
use Rattle.orc_merge.proofs.table_reading.read_items.Given as goal

abbrev pub invariant-loop-i : goal.invariant-loop-i
invariant-loop-i l = record {
  rows : rows_of l.items.items ≡ rows_read l.bytes l.i;
  clean : first_below (is_wrong_row l.bytes) l.i ≡ None;
  before : addressed_row l.before ≡ row_before l.bytes l.i;
}
