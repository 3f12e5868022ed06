use Rattle.std.proofs.Common.{◌≡◌, ◌≤◌, ◌<◌, ◌-◌, ℕ, length, get_or}
use Rattle.ot_base.specs.declared.row.PlacedRow.{PlacedRow}
use Rattle.eh_frame.proofs.writing.end_of_section.Given as goal

abbrev pub invariant-loop-to : goal.invariant-loop-to
invariant-loop-to l = record {
  low : l.from ≤ l.to;
  high : l.to ≤ length l.rows;
  own : (k : ℕ) (d : PlacedRow) → l.from ≤ k → k < l.to → (get_or l.rows k d).place.sec ≡ l.sec;
}

abbrev pub decreases-loop-to : goal.decreases-loop-to
decreases-loop-to l = length l.rows - l.to
