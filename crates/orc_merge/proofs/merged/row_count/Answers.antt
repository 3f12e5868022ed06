use Rattle.std.proofs.Common.{◌<◌, ◌^◌, ap, sym, subst, length, arith}
use Rattle.std.proofs.lemmas.List.Sums.{sum_by_more}
use Rattle.orc_merge.proofs.merged.row_count.Goals as goal

pub overflow_add-count : goal.overflow_add-count
overflow_add-count c =
    let part = c.part-item.result in
    let few : length part.rows.items < 2 ^ 32 = subst (λ p. length p.rows.items < 2 ^ 32) (sym c.part-item.is) (c.requires.rows c.loop-part.part-index part c.loop-part-test.true) in
    omega (arith, few, ap length c.as_slice.ensures.value, c.loop-part.invariant.few, c.requires.number)

pub loop-part-preserved : goal.loop-part-preserved
loop-part-preserved c =
    let part = c.part-item.result in
    let few : length part.rows.items < 2 ^ 32 = subst (λ p. length p.rows.items < 2 ^ 32) (sym c.part-item.is) (c.requires.rows c.loop-part.part-index part c.loop-part-test.true) in
    let same = ap (λ p. length p.rows.items) c.part-item.is in
    let more = sum_by_more (λ p. length p.rows.items) c.args.parts.now c.loop-part.part-index part c.loop-part-test.true in
    record {
      counted = omega (arith, c.loop-part.invariant.counted, ap length c.as_slice.ensures.value, same, more);
      few = omega (arith, few, ap length c.as_slice.ensures.value, c.loop-part.invariant.few);
    }
