use Rattle.std.proofs.Common.{◌∙◌, arith}
use Rattle.command_base.specs.declared.status.Status.TheVariants as status
use Rattle.command_base.proofs.PrintLemmas.{no_lower, part_failed, stands_still}
use Rattle.code_commands.proofs.ShowLines.{all_printed, point_fails, point_printed}
use Rattle.code_commands.proofs.show_printing.print_listing.Goals as goal

pub returns-in-Err-clause-printed : goal.returns-in-Err-clause-printed
returns-in-Err-clause-printed g c p tells =
    point_fails _ c.loop-n.n p.count _ _ _ _ (omega (arith, c.points-n-end.ensures.count p tells)) (c.loop-n.invariant.so_far p tells) (no_lower _ _ c.loop-n.invariant.unfailed) (c.in-Err.ensures.err p tells)

pub returns-in-Err-clause-output_failed : goal.returns-in-Err-clause-output_failed
returns-in-Err-clause-output_failed g c risen = part_failed _ _ _ _ c.loop-n.invariant.unfailed c.in-Err.ensures.output_failed risen

pub loop-n-preserved : goal.loop-n-preserved
loop-n-preserved g c = record {
  so_far = λ p tells. point_printed _ c.loop-n.n _ _ _ (c.loop-n.invariant.so_far p tells) (c.in-Ok.ensures.ok p tells);
  unfailed = stands_still status.SinkFault _ _ _ c.print_point.ensures.later c.in-Ok.ensures.output_failed ∙ c.loop-n.invariant.unfailed;
}

pub returns-clause-printed : goal.returns-clause-printed
returns-clause-printed g c p tells = all_printed _ c.loop-n.n p.count _ _ (omega (arith, c.points-n-end.ensures.count p tells)) (c.loop-n.invariant.so_far p tells)
