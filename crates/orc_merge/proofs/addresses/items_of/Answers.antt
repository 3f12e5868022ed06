use Rattle.std.proofs.Common.{ap, sym, subst, ◌∙◌, ◌++◌, take}
use Rattle.orc_walk.specs.Table.{IsLaidOut}
use Rattle.orc_merge.specs.Parts.{all_rows, rows_of_part}
use Rattle.orc_merge.proofs.PartLemmas.{flat_map-more}
use Rattle.orc_merge.proofs.addresses.items_of.Goals as goal

pub add_part-requires-clause-laid_out : goal.add_part-requires-clause-laid_out
add_part-requires-clause-laid_out c = subst (λ p. IsLaidOut p.ranges.items) (sym c.part-item.is) (c.requires.laid_out c.loop-part.part-index c.part-item.result c.loop-part-test.true)

pub loop-part-preserved : goal.loop-part-preserved
loop-part-preserved c =
    let part = c.part-item.result in
    let i = c.loop-part.part-index in
    c.in_ok-add_part.ensures
    ∙ ap (λ rows. rows ++ rows_of_part part) c.loop-part.invariant
    ∙ ap (λ p. all_rows (take i c.args.parts.now) ++ rows_of_part p) c.part-item.is
    ∙ sym (flat_map-more rows_of_part c.args.parts.now i part c.loop-part-test.true)
