use Rattle.std.proofs.Common.{◌≡◌, ◌-◌, length}
use Rattle.std.specs.List.{flat_map, range_with_len}
use Rattle.elf_write.specs.SymbolLayout.{changed, changes_of}
use Rattle.elf_write.proofs.changes.change_sections.Given as goal

abbrev pub invariant-loop-i : goal.invariant-loop-i
invariant-loop-i l = record {
  size : length l.out ≡ length l.initial.out;
  bytes : changed (flat_map (changes_of l.object l.plan) (range_with_len l.i (l.i-end - l.i))) l.out
      ≡ changed (flat_map (changes_of l.object l.plan) (range_with_len 0 (length l.object.sections))) l.initial.out;
}
