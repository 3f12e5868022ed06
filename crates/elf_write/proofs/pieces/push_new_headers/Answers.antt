use Rattle.std.proofs.Common.{drop, arith}
use Rattle.elf_write.specs.Layout.{bodies}
use Rattle.elf_write.specs.New.{entries}
use Rattle.elf_write.proofs.Sizes.{le-end_of, step_within}
use Rattle.elf_write.proofs.pieces.push_new_headers.Goals as goal

pub next_multiple-place-requires : goal.next_multiple-place-requires
next_multiple-place-requires c =
    omega (arith, c.loop-section.invariant.ends, le-end_of c.loop-section.at (bodies (entries (drop c.loop-section.section-index c.args.new.now))))

pub overflow_add-at : goal.overflow_add-at
overflow_add-at c =
    let s = step_within c.loop-section.at c.args.new.now c.loop-section.section-index c.section-item.result c.section-item.is (omega arith) in
    omega (arith, c.loop-section.invariant.ends)
