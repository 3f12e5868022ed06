use Rattle.std.proofs.Common.{◌≡◌, ℕ, ◌<◌, get_or}
use Rattle.ot_base.specs.declared.row.PlacedRow.{PlacedRow}
use Rattle.program_check.proofs.ends.count_in.Given as goal

abbrev pub invariant-loop-i : goal.invariant-loop-i
invariant-loop-i l = (k : ℕ) (d : PlacedRow) → k < l.i → (get_or l.rows k d).place.sec ≡ l.sec
