use Rattle.std.proofs.Common.{refl, ◌∙◌}
use Rattle.command_base.specs.declared.status.Status.TheVariants as status
use Rattle.command_base.specs.Printing.{whole}
use Rattle.command_base.specs.Warnings.{line_of}
use Rattle.command_base.proofs.PartLemmas.{all_printed, part_fails_at, part_printed}
use Rattle.command_base.proofs.PrintLemmas.{no_lower, part_failed, stands_still, text_fails}
use Rattle.command_base.proofs.warnings.print_warnings.Goals as goal

pub returns-in-Err-clause-printed : goal.returns-in-Err-clause-printed
returns-in-Err-clause-printed g c =
    let later = no_lower _ _ c.loop-warning.invariant.unfailed in
    text_fails status.Warnings _ _ _ _ (λ e. cc) (part_fails_at (line_of c.args.object.now) c.args.warnings.now c.loop-warning.warning-index _ _ _ _ _ c.loop-warning-test.true c.loop-warning.invariant.so_far later c.in-Err.ensures.err)

pub returns-in-Err-clause-output_failed : goal.returns-in-Err-clause-output_failed
returns-in-Err-clause-output_failed g c risen = part_failed _ _ _ _ c.loop-warning.invariant.unfailed c.in-Err.ensures.output_failed risen

pub loop-warning-preserved : goal.loop-warning-preserved
loop-warning-preserved g c = record {
  so_far = part_printed (line_of c.args.object.now) c.args.warnings.now c.loop-warning.warning-index _ _ _ _ c.loop-warning-test.true c.loop-warning.invariant.so_far c.in-Ok.ensures.ok;
  unfailed = stands_still status.SinkFault _ _ _ c.print_warning.ensures.later c.in-Ok.ensures.output_failed ∙ c.loop-warning.invariant.unfailed;
}

pub returns-clause-printed : goal.returns-clause-printed
returns-clause-printed g c = whole refl (all_printed (line_of c.args.object.now) c.args.warnings.now c.loop-warning.warning-index _ _ c.loop-warning-test.false c.loop-warning.invariant.so_far)
