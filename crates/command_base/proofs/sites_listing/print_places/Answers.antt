use Rattle.std.proofs.Common.{◌∙◌}
use Rattle.std.proofs.lemmas.Result.{err_from_is_err_and}
use Rattle.command_base.specs.declared.status.Status.TheVariants as status
use Rattle.command_base.proofs.PartLemmas.{all_printed, part_fails_at, part_printed}
use Rattle.command_base.proofs.PrintLemmas.{no_lower, stands_still}
use Rattle.command_base.specs.List.{site_line}
use Rattle.command_base.proofs.sites_listing.print_places.Goals as goal

pub loop-place-preserved : goal.loop-place-preserved
loop-place-preserved g c = record {
  so_far = part_printed (site_line c.args.object.now c.args.word.now) c.args.places.now c.loop-place.place-index _ _ _ _ c.loop-place-test.true c.loop-place.invariant.so_far c.in_ok-print_site.ensures.ok;
  unfailed = stands_still status.SinkFault _ _ _ c.print_site.ensures.later c.in_ok-print_site.ensures.output_failed ∙ c.loop-place.invariant.unfailed;
}

pub returns-clause-ok : goal.returns-clause-ok
returns-clause-ok g c = all_printed (site_line c.args.object.now c.args.word.now) c.args.places.now c.loop-place.place-index _ _ c.loop-place-test.false c.loop-place.invariant.so_far

pub returns-in_err-print_site-clause-err : goal.returns-in_err-print_site-clause-err
returns-in_err-print_site-clause-err g c =
    let later = no_lower _ _ c.loop-place.invariant.unfailed in
    let p = err_from_is_err_and c.from_residual.result c.from_residual.ensures.1 in
    rw (p.1, p.2) (part_fails_at (site_line c.args.object.now c.args.word.now) c.args.places.now c.loop-place.place-index _ _ _ _ _ c.loop-place-test.true c.loop-place.invariant.so_far later c.in_err-print_site.ensures.err)
