use Rattle.std.proofs.Common.{◌≡◌, drop}
use Rattle.elf_write.specs.Layout.{bodies, laid_out}
use Rattle.elf_write.specs.New.{entries}
use Rattle.elf_write.proofs.pieces.push_bodies.Given as goal

abbrev pub invariant-loop-section : goal.invariant-loop-section
invariant-loop-section l =
    laid_out l.out.items (bodies (entries (drop l.section-index l.new))) ≡ laid_out l.initial.out.items (bodies (entries l.new))
