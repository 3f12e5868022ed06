use Rattle.std.proofs.Common.{◌+◌, ap, sym, subst, ◌∙◌, inl, inr, take_all, arith}
use Rattle.std.specs.Prelude.{All}
use Rattle.std.proofs.lemmas.Result.{err_from_is_err_and}
use Rattle.std.proofs.lemmas.List.Elements.{All-more}
use Rattle.orc_walk.specs.Table.{IsLaidOut}
use Rattle.orc_merge.specs.MergeFaults.{unplaced}
use Rattle.orc_merge.proofs.PartLemmas.{first_more, first_stays}
use Rattle.orc_merge.proofs.places.check_places.Goals as goal

pub loop-number-preserved : goal.loop-number-preserved
loop-number-preserved c =
    let part = c.index-parts-number.result in
    let i = c.loop-number.number in
    record {
      fits = first_more unplaced c.args.parts.now i part c.loop-number-test.true c.loop-number.invariant.fits ∙ ap (unplaced i) (sym c.index-parts-number.is) ∙ c.in_ok-check_place.ensures.fits;
      laid_out = All-more (λ p. IsLaidOut p.ranges.items) c.args.parts.now i part c.loop-number-test.true c.loop-number.invariant.laid_out (subst (λ p. IsLaidOut p.ranges.items) c.index-parts-number.is c.in_ok-check_place.ensures.laid_out);
    }

pub returns-in_err-check_place-clause-fault : goal.returns-in_err-check_place-clause-fault
returns-in_err-check_place-clause-fault c =
    let part = c.index-parts-number.result in
    let i = c.loop-number.number in
    let p = err_from_is_err_and c.from_residual.result c.from_residual.ensures.1 in
    rw (p.1, p.2) (elim c.in_err-check_place.ensures.fault [
      | inl no_memory ↦ inl no_memory
      | inr is ↦ inr (first_stays unplaced c.args.parts.now (i + 1) _ (first_more unplaced c.args.parts.now i part c.loop-number-test.true c.loop-number.invariant.fits ∙ ap (unplaced i) (sym c.index-parts-number.is) ∙ is))
    ])

pub returns-clause-laid_out : goal.returns-clause-laid_out
returns-clause-laid_out c = subst (λ parts. All (λ p. IsLaidOut p.ranges.items) parts) (take_all c.loop-number.number c.args.parts.now (omega arith)) c.loop-number.invariant.laid_out
