use Rattle.std.proofs.Common.{ℕ, ◌<◌, get_or}
use Rattle.ot_base.specs.declared.row.PlacedRow.{PlacedRow}
use Rattle.orc_walk.specs.Table.{IsWithin}
use Rattle.file_tests.proofs.rows.made.place.Given as goal

abbrev pub invariant-loop-placed : goal.invariant-loop-placed
invariant-loop-placed l = (k : ℕ) → k < l.placed-index → (d : PlacedRow) → IsWithin l.ranges (get_or l.rows k d)
