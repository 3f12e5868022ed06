use Rattle.std.proofs.Common.{◌≡◌, ℕ, ◌<◌, None, slice_index_or}
use Rattle.symbols_relocs.proofs.names.has_stems.Given as goal

abbrev pub invariant-loop-stem : goal.invariant-loop-stem
invariant-loop-stem l = (i : ℕ) → i < l.stem-index → slice_index_or l.stems i None ≡ None
