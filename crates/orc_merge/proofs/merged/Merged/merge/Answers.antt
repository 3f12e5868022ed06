use Rattle.std.proofs.Common.{◌≤◌, sym, subst, inl, inr, length, arith}
use Rattle.std.specs.Prelude.{All}
use Rattle.std.proofs.lemmas.Result.{err_from_is_err_and}
use Rattle.std.proofs.lemmas.List.{length-map}
use Rattle.ot_base.specs.CountedItems.{CountedItems}
use Rattle.orc_walk.specs.Rows.{addressed_row, rows_of}
use Rattle.orc_merge.specs.Merged.{IsMergeOf, IsMergedTable}
use Rattle.orc_merge.specs.Alike.{TellsAlike}
use Rattle.orc_merge.proofs.MergeLemmas.{merge_of, merged_table, clean, unplaced_first, unended_first, overlap_first, too_many_first, all_alike}
use Rattle.orc_merge.proofs.merged.Merged.merge.Goals as goal

pub returns-in_err-check_places-clause-fault : goal.returns-in_err-check_places-clause-fault
returns-in_err-check_places-clause-fault c =
    let p = err_from_is_err_and c.from_residual.result c.from_residual.ensures.1 in
    rw (p.1, p.2) (elim c.in_err-check_places.ensures.fault [
      | inl want ↦ inl want
      | inr is ↦ inr (unplaced_first c.args.parts.now _ is)
    ])

pub returns-in_err-check_ends-clause-fault : goal.returns-in_err-check_ends-clause-fault
returns-in_err-check_ends-clause-fault c =
    let p = err_from_is_err_and c.from_residual-in_err-check_ends.result c.from_residual-in_err-check_ends.ensures.1 in
    rw (p.1, p.2) (elim c.in_err-check_ends.ensures.fault [
      | inl want ↦ inl want
      | inr is ↦ inr (unended_first c.args.parts.now _ c.in_ok-check_places.ensures.fits is)
    ])

pub returns-in_err-check_overlaps-clause-fault : goal.returns-in_err-check_overlaps-clause-fault
returns-in_err-check_overlaps-clause-fault c =
    let p = err_from_is_err_and c.from_residual-in_err-check_overlaps.result c.from_residual-in_err-check_overlaps.ensures.1 in
    rw (p.1, p.2) (elim c.in_err-check_overlaps.ensures.fault [
      | inl want ↦ inl want
      | inr is ↦ inr (overlap_first c.args.parts.now _ c.in_ok-check_places.ensures.fits c.in_ok-check_ends.ensures.fits is)
    ])

pub returns-in_err-count-clause-fault : goal.returns-in_err-count-clause-fault
returns-in_err-count-clause-fault c =
    let p = err_from_is_err_and c.from_residual-in_err-count.result c.from_residual-in_err-count.ensures.1 in
    rw (p.1, p.2) (inr (too_many_first c.args.parts.now _ c.in_ok-check_places.ensures.fits c.in_ok-check_ends.ensures.fits c.in_ok-check_overlaps.ensures.fits c.in_err-count.ensures.fault))

pub build-requires : goal.build-requires
build-requires c =
    let merge = merge_of c.args.parts.now _ (rows_of c.sort.new.items.items) c.in_ok-items.ensures c.sort.ensures.moved c.in_ok-sort.ensures.in_order c.sort.ensures.ties in
    let table = merged_table c.args.parts.now (rows_of c.sort.new.items.items) c.requires.within c.requires.held c.in_ok-check_places.ensures.laid_out c.in_ok-count.ensures.fits merge.all c.in_ok-sort.ensures.in_order in
    let few : length (rows_of c.sort.new.items.items) ≤ 4000000 = table.few in
    omega (arith, few, length-map c.sort.new.items.items addressed_row)

pub returns-clause-fits : goal.returns-clause-fits
returns-clause-fits c = clean c.args.parts.now c.in_ok-check_places.ensures.fits c.in_ok-check_ends.ensures.fits c.in_ok-check_overlaps.ensures.fits c.in_ok-count.ensures.fits

pub returns-clause-rows : goal.returns-clause-rows
returns-clause-rows c =
    subst (λ (t : CountedItems). IsMergeOf c.args.parts.now (rows_of t.items)) (sym c.build.ensures)
    (merge_of c.args.parts.now _ (rows_of c.sort.new.items.items) c.in_ok-items.ensures c.sort.ensures.moved c.in_ok-sort.ensures.in_order c.sort.ensures.ties)

pub returns-clause-alike : goal.returns-clause-alike
returns-clause-alike c =
    subst (λ (t : CountedItems). All (λ part. TellsAlike part (rows_of t.items)) c.args.parts.now) (sym c.build.ensures)
    (all_alike c.args.parts.now (rows_of c.sort.new.items.items)
    (clean c.args.parts.now c.in_ok-check_places.ensures.fits c.in_ok-check_ends.ensures.fits c.in_ok-check_overlaps.ensures.fits c.in_ok-count.ensures.fits)
    (merge_of c.args.parts.now _ (rows_of c.sort.new.items.items) c.in_ok-items.ensures c.sort.ensures.moved c.in_ok-sort.ensures.in_order c.sort.ensures.ties))

pub invariant_of-result : goal.invariant_of-result
invariant_of-result c =
    let merge = merge_of c.args.parts.now _ (rows_of c.sort.new.items.items) c.in_ok-items.ensures c.sort.ensures.moved c.in_ok-sort.ensures.in_order c.sort.ensures.ties in
    subst (λ (t : CountedItems). IsMergedTable (rows_of t.items)) (sym c.build.ensures)
    (merged_table c.args.parts.now (rows_of c.sort.new.items.items) c.requires.within c.requires.held c.in_ok-check_places.ensures.laid_out c.in_ok-count.ensures.fits merge.all c.in_ok-sort.ensures.in_order)
