use Rattle.std.proofs.Common.{◌≡◌, ◌++◌, drop}
use Rattle.elf_write.specs.Layout.{new_names}
use Rattle.elf_write.specs.New.{entries}
use Rattle.elf_write.proofs.pieces.push_names.Given as goal

abbrev pub invariant-loop-section : goal.invariant-loop-section
invariant-loop-section l =
    l.out.items ++ new_names (entries (drop l.section-index l.new)) ≡ l.initial.out.items ++ new_names (entries l.new)
