use Rattle.std.proofs.Common.{refl, arith}
use Rattle.elf_write.specs.New.{entry_of}
use Rattle.demo_objects.specs.CanMake.{IsSection}
use Rattle.demo_objects.proofs.Items.{all-more, all-taken, item-all}
use Rattle.demo_objects.proofs.parts.are_sections.Goals as goal

pub returns-then-not-is_section : goal.returns-then-not-is_section
returns-then-not-is_section c = (
  λ h. absurd cc,
  λ all. (let ok = c.is_section.ensures.1 (item-all entry_of IsSection c.args.sections.now c.loop-section.section-index c.section-item.result c.section-item.is (omega arith) all) in let fails = c.if-not-is_section.true in grind arith),
)

pub loop-section-preserved : goal.loop-section-preserved
loop-section-preserved c =
    all-more entry_of IsSection c.args.sections.now c.loop-section.section-index c.section-item.result c.section-item.is (omega arith) c.loop-section.invariant (c.is_section.ensures.0 (let passes = c.if-not-is_section.false in grind arith))

pub returns : goal.returns
returns c = (λ _. all-taken entry_of IsSection c.args.sections.now c.loop-section.section-index (omega arith) c.loop-section.invariant, λ _. refl)
