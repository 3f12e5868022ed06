use Rattle.std.proofs.Common.{arith}
use Rattle.std.proofs.lemmas.Grind.{common_steps}
use Rattle.elf_write.specs.Added.{HasFields}
use Rattle.elf_write.specs.New.{entry_of}
use Rattle.demo_objects.proofs.Items.{all-more, all-taken}
use Rattle.demo_objects.proofs.sections.copies_of.Goals as goal

pub loop-section-preserved : goal.loop-section-preserved
loop-section-preserved c = record {
  same = grind (arith, common_steps);
  numbers = all-more entry_of HasFields c.args.sections.now c.loop-section.section-index c.section-item.result c.section-item.is (omega arith) c.loop-section.invariant.numbers c.in_ok-copy_of.ensures.numbers;
}

pub returns-clause-numbers : goal.returns-clause-numbers
returns-clause-numbers c = all-taken entry_of HasFields c.args.sections.now c.loop-section.section-index (omega arith) c.loop-section.invariant.numbers
