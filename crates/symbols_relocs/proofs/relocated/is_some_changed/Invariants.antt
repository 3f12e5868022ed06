use Rattle.std.proofs.Common.{◌≡◌, ℕ, ◌+◌, ◌<◌, false}
use Rattle.elf_objects.specs.Contents.{relocs_at}
use Rattle.symbols_relocs.specs.Relocs.{is_changed}
use Rattle.symbols_relocs.proofs.relocated.is_some_changed.Given as goal

abbrev pub invariant-loop-k : goal.invariant-loop-k
invariant-loop-k l = (i : ℕ) → i < l.k → is_changed (l.place.off + i) (relocs_at l.index.elf l.place.sec) ≡ false
