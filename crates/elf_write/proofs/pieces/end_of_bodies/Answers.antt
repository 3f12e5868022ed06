use Rattle.std.proofs.Common.{drop, arith}
use Rattle.elf_write.specs.Layout.{bodies}
use Rattle.elf_write.specs.New.{entries}
use Rattle.elf_write.proofs.Sizes.{le-end_of, step_within}
use Rattle.elf_write.proofs.pieces.end_of_bodies.Goals as goal

pub next_multiple-requires : goal.next_multiple-requires
next_multiple-requires c =
    omega (arith, c.loop-section.invariant, le-end_of c.loop-section.end (bodies (entries (drop c.loop-section.section-index c.args.new.now))))

pub overflow_add-end : goal.overflow_add-end
overflow_add-end c =
    let s = step_within c.loop-section.end c.args.new.now c.loop-section.section-index c.section-item.result c.section-item.is (omega arith) in
    omega (arith, c.loop-section.invariant)
