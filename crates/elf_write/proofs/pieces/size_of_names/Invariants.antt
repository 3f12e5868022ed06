use Rattle.std.proofs.Common.{◌≡◌, ◌+◌, length, drop}
use Rattle.elf_write.specs.Layout.{new_names}
use Rattle.elf_write.specs.New.{entries}
use Rattle.elf_write.proofs.pieces.size_of_names.Given as goal

abbrev pub invariant-loop-section : goal.invariant-loop-section
invariant-loop-section l =
    l.size + length (new_names (entries (drop l.section-index l.new))) ≡ length (new_names (entries l.new))
