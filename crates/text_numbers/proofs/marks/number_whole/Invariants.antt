use Rattle.std.proofs.Common.{◌≡◌, ℕ, ◌≤◌, ◌-◌, ◌%◌, Some, slice_get, slice_range}
use Rattle.text_numbers.specs.Texts.{AreKept, AreMarks}
use Rattle.text_numbers.proofs.marks.number_whole.Given as goal

abbrev pub invariant-loop-at : goal.invariant-loop-at
invariant-loop-at l = record {
  from : l.start ≤ l.at;
  to : l.at ≤ l.end;
  whole : (l.end - l.at) % 64 ≡ 0;
  steps : (l.at - l.start) % 64 ≡ 0;
  number : slice_get l.pieces.texts l.number ≡ Some (slice_range l.pieces.table l.at l.end);
  table : l.pieces.table ≡ l.initial.pieces.table;
  kept : AreKept l.initial.pieces.texts l.pieces.texts;
  marks : AreMarks l.pieces l.marks.items;
}

abbrev pub decreases-loop-at : goal.decreases-loop-at
decreases-loop-at l = l.at
