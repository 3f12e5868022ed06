use Rattle.std.proofs.Common.{refl, ◌∙◌}
use Rattle.elf_objects.specs.Contents.{section_at}
use Rattle.eh_frame.specs.Texts.{rule_line}
use Rattle.eh_frame.specs.declared.rule.PlacedRule.{PlacedRule}
use Rattle.command_base.specs.declared.status.Status.TheVariants as status
use Rattle.command_base.specs.Printing.{whole}
use Rattle.command_base.proofs.PartLemmas.{all_printed, part_fails_at, part_printed}
use Rattle.command_base.proofs.PrintLemmas.{no_lower, part_failed, stands_still, text_fails}
use Rattle.command_base.proofs.frames_telling.print_rules.Goals as goal

pub returns-in-Err-clause-printed : goal.returns-in-Err-clause-printed
returns-in-Err-clause-printed g c =
    let later = no_lower _ _ c.loop-placed.invariant.unfailed in
    text_fails status.Done _ _ _ _ (λ e. cc) (part_fails_at (λ (placed : PlacedRule). rule_line (section_at c.args.object.now placed.place.sec).name placed) c.args.rules.now c.loop-placed.placed-index _ _ _ _ _ c.loop-placed-test.true c.loop-placed.invariant.so_far later c.in-Err.ensures.err)

pub returns-in-Err-clause-output_failed : goal.returns-in-Err-clause-output_failed
returns-in-Err-clause-output_failed g c risen = part_failed _ _ _ _ c.loop-placed.invariant.unfailed c.in-Err.ensures.output_failed risen

pub loop-placed-preserved : goal.loop-placed-preserved
loop-placed-preserved g c = record {
  so_far = part_printed (λ (placed : PlacedRule). rule_line (section_at c.args.object.now placed.place.sec).name placed) c.args.rules.now c.loop-placed.placed-index _ _ _ _ c.loop-placed-test.true c.loop-placed.invariant.so_far c.in-Ok.ensures.ok;
  unfailed = stands_still status.SinkFault _ _ _ c.print_rule.ensures.later c.in-Ok.ensures.output_failed ∙ c.loop-placed.invariant.unfailed;
}

pub returns-clause-printed : goal.returns-clause-printed
returns-clause-printed g c = whole refl (all_printed (λ (placed : PlacedRule). rule_line (section_at c.args.object.now placed.place.sec).name placed) c.args.rules.now c.loop-placed.placed-index _ _ c.loop-placed-test.false c.loop-placed.invariant.so_far)
