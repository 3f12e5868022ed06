use Rattle.std.proofs.Common.{◌≡◌, ℕ, None, length, slice_index_or}
use Rattle.symbols_relocs.specs.Names.{strings, AreRuns, AreStems, HasMark}
use Rattle.symbols_relocs.proofs.names.list_stems.Given as goal

abbrev pub invariant-loop-function : goal.invariant-loop-function
invariant-loop-function l = record {
  stems : AreStems l.object l.functions l.texts.texts l.function-index l.stems.items;
  marked : (i : ℕ) → HasMark l.texts.texts l.marks.items (slice_index_or l.stems.items i None);
  table : l.texts.table ≡ strings l.object;
  runs : AreRuns (strings l.object) l.runs.items;
  len : length l.marks.items ≡ 1024;
}
