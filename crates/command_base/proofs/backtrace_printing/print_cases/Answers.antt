use Rattle.std.proofs.Common.{refl, ◌∙◌}
use Rattle.kept_states.specs.LevelStates.{at}
use Rattle.command_base.specs.declared.status.Status.TheVariants as status
use Rattle.command_base.specs.Printing.{whole}
use Rattle.command_base.proofs.PartLemmas.{all_printed, part_fails_at, part_printed}
use Rattle.command_base.proofs.PrintLemmas.{no_lower, part_failed, stands_still, text_fails}
use Rattle.command_base.specs.BacktraceCases.{case_text}
use Rattle.command_base.proofs.backtrace_printing.print_cases.Goals as goal

pub returns-in-Err-clause-printed : goal.returns-in-Err-clause-printed
returns-in-Err-clause-printed g c p tells =
    let later = no_lower _ _ c.loop-case.invariant.unfailed in
    text_fails status.Warnings _ _ _ _ (λ e. cc)
    (part_fails_at (case_text c.args.sources.now.object.now c.args.sources.now.input.now p (at c.args.sources.now.kept.now) c.args.sources.now.ways) c.args.cases.now c.loop-case.case-index _ _ _ _ _ c.loop-case-test.true (c.loop-case.invariant.so_far p tells) later (c.in-Err.ensures.err p tells))

pub returns-in-Err-clause-output_failed : goal.returns-in-Err-clause-output_failed
returns-in-Err-clause-output_failed g c risen = part_failed _ _ _ _ c.loop-case.invariant.unfailed c.in-Err.ensures.output_failed risen

pub loop-case-preserved : goal.loop-case-preserved
loop-case-preserved g c = record {
  so_far = λ p tells. part_printed (case_text c.args.sources.now.object.now c.args.sources.now.input.now p (at c.args.sources.now.kept.now) c.args.sources.now.ways) c.args.cases.now c.loop-case.case-index _ _ _ _ c.loop-case-test.true (c.loop-case.invariant.so_far p tells) (c.in-Ok.ensures.ok p tells);
  unfailed = stands_still status.SinkFault _ _ _ c.print_case.ensures.later c.in-Ok.ensures.output_failed ∙ c.loop-case.invariant.unfailed;
}

pub returns-clause-printed : goal.returns-clause-printed
returns-clause-printed g c p tells =
    whole refl (all_printed (case_text c.args.sources.now.object.now c.args.sources.now.input.now p (at c.args.sources.now.kept.now) c.args.sources.now.ways) c.args.cases.now c.loop-case.case-index _ _ c.loop-case-test.false (c.loop-case.invariant.so_far p tells))
