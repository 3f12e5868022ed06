use Rattle.std.proofs.Common.{◌≡◌, ℕ, ◌<◌, [], length, get_or}
use Rattle.elf_objects.specs.Contents.{relocs_at}
use Rattle.symbols_relocs.specs.Relocs.{IsIndexOf}
use Rattle.symbols_relocs.proofs.index.index_relocs.Given as goal

abbrev pub invariant-loop-sec : goal.invariant-loop-sec
invariant-loop-sec l = (length l.list.items ≡ l.sec) × ((i : ℕ) → i < l.sec → IsIndexOf (relocs_at l.object i) (get_or l.list.items i []))
