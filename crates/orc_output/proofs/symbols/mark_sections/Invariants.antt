use Rattle.std.proofs.Common.{◌≡◌, ◌<◌, Bool, ℕ, length, slice_index_or, take}
use Rattle.orc_output.specs.Needed.{has_row}
use Rattle.orc_output.proofs.symbols.mark_sections.Given as goal

abbrev pub invariant-loop-placed : goal.invariant-loop-placed
invariant-loop-placed l = record {
  long : length l.marks.items ≡ l.count;
  marks : (sec : ℕ) (d : Bool) → sec < l.count → slice_index_or l.marks.items sec d ≡ has_row (take l.placed-index l.rows) sec;
}
