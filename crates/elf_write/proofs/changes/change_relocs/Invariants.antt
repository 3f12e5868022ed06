use Rattle.std.proofs.Common.{◌≡◌, ◌-◌, length, map}
use Rattle.std.specs.List.{range_with_len}
use Rattle.elf_write.specs.SymbolLayout.{changed, moved, reloc_change, reloc_changes}
use Rattle.elf_write.proofs.changes.change_relocs.Given as goal

abbrev pub invariant-loop-k : goal.invariant-loop-k
invariant-loop-k l = record {
  size : length l.out ≡ length l.initial.out;
  bytes : changed (map (moved l.from) (map (reloc_change l.plan l.body) (range_with_len l.k (l.k-end - l.k)))) l.out
      ≡ changed (map (moved l.from) (reloc_changes l.plan l.body)) l.initial.out;
}
