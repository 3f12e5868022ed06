use Rattle.std.proofs.Common.{◌+◌, ap, sym, ◌∙◌, inl, inr}
use Rattle.std.proofs.lemmas.Result.{err_from_is_err_and}
use Rattle.orc_merge.specs.MergeFaults.{unended}
use Rattle.orc_merge.proofs.PartLemmas.{first_more, first_stays}
use Rattle.orc_merge.proofs.ends.check_ends.Goals as goal

pub loop-number-preserved : goal.loop-number-preserved
loop-number-preserved c =
    let part = c.index-parts-number.result in
    let i = c.loop-number.number in
    first_more unended c.args.parts.now i part c.loop-number-test.true c.loop-number.invariant ∙ ap (unended i) (sym c.index-parts-number.is) ∙ c.in_ok-check_end.ensures.fits

pub returns-in_err-check_end-clause-fault : goal.returns-in_err-check_end-clause-fault
returns-in_err-check_end-clause-fault c =
    let part = c.index-parts-number.result in
    let i = c.loop-number.number in
    let p = err_from_is_err_and c.from_residual.result c.from_residual.ensures.1 in
    rw (p.1, p.2) (elim c.in_err-check_end.ensures.fault [
      | inl no_memory ↦ inl no_memory
      | inr is ↦ inr (first_stays unended c.args.parts.now (i + 1) _ (first_more unended c.args.parts.now i part c.loop-number-test.true c.loop-number.invariant ∙ ap (unended i) (sym c.index-parts-number.is) ∙ is))
    ])
