use Rattle.std.proofs.Common.{ap, sym, ◌∙◌, ◌++◌, get_or}
use Rattle.orc_merge.specs.Parts.{owned_ranges}
use Rattle.orc_merge.proofs.PartLemmas.{ranges_from-more}
use Rattle.orc_merge.proofs.overlaps.owned_ranges.Goals as goal

pub loop-number-preserved : goal.loop-number-preserved
loop-number-preserved c =
    let part = c.index-parts-number.result in
    let i = c.loop-number.number in
    c.in_ok-add_ranges.ensures
    ∙ ap (λ ranges. c.loop-number.owned.items ++ owned_ranges i ranges) (c.deref.ensures.value ∙ ap (λ p. p.ranges.items) c.index-parts-number.is)
    ∙ ap (λ owned. owned ++ owned_ranges i (get_or c.args.parts.now i part).ranges.items) c.loop-number.invariant
    ∙ sym (ranges_from-more c.args.parts.now i part c.loop-number-test.true)
