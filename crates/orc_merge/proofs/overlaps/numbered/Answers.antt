use Rattle.std.proofs.Common.{◌∷◌, ◌++◌, [], List, ap, sym, ◌∙◌, get_or}
use Rattle.table_defs.specs.declared.range.Range.{Range}
use Rattle.orc_merge.specs.Parts.{OwnedRange}
use Rattle.orc_merge.proofs.OverlapLemmas.{numbered_next}
use Rattle.orc_merge.proofs.overlaps.numbered.Goals as goal

pub loop-number-preserved : goal.loop-number-preserved
loop-number-preserved c =
    let i = c.loop-number.number in
    let d : OwnedRange = (0, record { sec = 0; base = 0; size = 0 }) in
    let item : OwnedRange = get_or c.args.owned.now i d in
    c.in_ok-push.ensures.items
    ∙ ap (λ (ranges : List Range). ranges ++ record { sec = i; base = item.1.base; size = item.1.size } ∷ []) c.loop-number.invariant
    ∙ sym (numbered_next c.args.owned.now i d c.loop-number-test.true)
