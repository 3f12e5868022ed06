use Rattle.std.proofs.Common.{arith}
use Rattle.demo_objects.proofs.Sizes.{item-aligned, step_within}
use Rattle.demo_objects.proofs.file.push_headers.Goals as goal

pub next_multiple-place-requires-clause-some : goal.next_multiple-place-requires-clause-some
next_multiple-place-requires-clause-some c =
    item-aligned c.args.sections.now c.loop-section.section-index c.section-item.result c.section-item.is (omega arith) c.requires.aligned

pub next_multiple-place-requires-clause-fits : goal.next_multiple-place-requires-clause-fits
next_multiple-place-requires-clause-fits c =
    let s = step_within c.loop-section.at c.args.sections.now c.loop-section.section-index c.section-item.result c.section-item.is (omega arith) c.requires.aligned in
    omega (arith, c.loop-section.invariant.ends, c.requires.fits)

pub overflow_add-at : goal.overflow_add-at
overflow_add-at c =
    let s = step_within c.loop-section.at c.args.sections.now c.loop-section.section-index c.section-item.result c.section-item.is (omega arith) c.requires.aligned in
    omega (arith, c.loop-section.invariant.ends, c.requires.fits)
