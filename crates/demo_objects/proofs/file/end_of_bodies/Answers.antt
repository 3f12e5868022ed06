use Rattle.std.proofs.Common.{arith}
use Rattle.demo_objects.proofs.Sizes.{item-aligned, step_within}
use Rattle.demo_objects.proofs.file.end_of_bodies.Goals as goal

pub next_multiple-requires-clause-some : goal.next_multiple-requires-clause-some
next_multiple-requires-clause-some c =
    item-aligned c.args.sections.now c.loop-section.section-index c.section-item.result c.section-item.is (omega arith) c.requires.aligned

pub next_multiple-requires-clause-fits : goal.next_multiple-requires-clause-fits
next_multiple-requires-clause-fits c =
    let s = step_within c.loop-section.end c.args.sections.now c.loop-section.section-index c.section-item.result c.section-item.is (omega arith) c.requires.aligned in
    omega (arith, c.loop-section.invariant, c.requires.fits)

pub overflow_add-end : goal.overflow_add-end
overflow_add-end c =
    let s = step_within c.loop-section.end c.args.sections.now c.loop-section.section-index c.section-item.result c.section-item.is (omega arith) c.requires.aligned in
    omega (arith, c.loop-section.invariant, c.requires.fits)
