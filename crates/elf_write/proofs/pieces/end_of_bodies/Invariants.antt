use Rattle.std.proofs.Common.{◌≡◌, drop}
use Rattle.elf_write.specs.Layout.{bodies, end_of}
use Rattle.elf_write.specs.New.{entries}
use Rattle.elf_write.proofs.pieces.end_of_bodies.Given as goal

abbrev pub invariant-loop-section : goal.invariant-loop-section
invariant-loop-section l =
    end_of l.end (bodies (entries (drop l.section-index l.new))) ≡ end_of l.at (bodies (entries l.new))
