use Rattle.std.proofs.Common.{◌≡◌, ap, sym, ◌∙◌, arith, length, drop}
use Rattle.elf_write.specs.New.{entries}
use Rattle.demo_objects.specs.Layout.{bodies_end}
use Rattle.demo_objects.proofs.Sizes.{item-aligned, length-with_bodies, rest-aligned, step_within}
use Rattle.demo_objects.proofs.file.push_bodies.Goals as goal

pub pad-requires-clause-some : goal.pad-requires-clause-some
pad-requires-clause-some c =
    item-aligned c.args.sections.now c.loop-section.section-index c.section-item.result c.section-item.is (omega arith) c.requires.aligned

pub pad-requires-clause-fits : goal.pad-requires-clause-fits
pad-requires-clause-fits c =
    let all = c.args.sections.now in
    let s = step_within (length c.loop-section.out.items) all c.loop-section.section-index c.section-item.result c.section-item.is (omega arith) c.requires.aligned in
    let rest = rest-aligned all c.loop-section.section-index c.requires.aligned in
    let ends : bodies_end (length c.loop-section.out.items) (entries (drop c.loop-section.section-index all)) ≡ bodies_end (length c.args.out.now.items) (entries all)
    = sym (length-with_bodies c.loop-section.out.items (entries (drop c.loop-section.section-index all)) rest)
    ∙ ap length c.loop-section.invariant
    ∙ length-with_bodies c.args.out.now.items (entries all) c.requires.aligned in
    omega (arith, c.requires.fits)
