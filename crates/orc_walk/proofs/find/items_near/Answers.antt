use Rattle.std.proofs.Common.{◌≡◌, ◌+◌, ◌-◌, ◌/◌, ◌<◌, ◌≤◌, refl, length, arith, sym, ap, subst, ◌∙◌}
use Rattle.std.proofs.lemmas.List.{length-map}
use Rattle.orc_walk.specs.Rows.{addressed_row, rows_of}
use Rattle.orc_walk.specs.Blocks.{ranges_of, HasFirsts}
use Rattle.table_defs.specs.Placement.{covers}
use Rattle.orc_walk.proofs.Near.{all_rows, none_inside, one_inside, past_end, near_by, begins_below, Split, covered}
use Rattle.orc_walk.proofs.find.items_near.Goals as goal

pub returns-then-count-eq0-clause-number : goal.returns-then-count-eq0-clause-number
returns-then-count-eq0-clause-number c =
    let outside = none_inside c.args.blocks.now c.args.addr (subst (λ n. Split c.args.blocks.now c.args.addr n) c.if-count-eq0.true c.begun-count.ensures.split) in
    let all = all_rows (ranges_of c.args.blocks.now) _ c.args.addr outside in
    (let e : c.len.result - 0 ≡ length c.args.tape.now.items = omega (arith, c.len.ensures) in e) ∙ sym (length-map c.args.tape.now.items addressed_row) ∙ sym all

pub returns-then-addr-range-clause-number : goal.returns-then-addr-range-clause-number
returns-then-addr-range-clause-number c =
    let inside = one_inside c.args.blocks.now c.args.addr (c.begun-count.result - 1) c.index-blocks-count.result c.requires.fits.ascending (omega (arith, c.begun-count.ensures.bound)) (subst (λ n. Split c.args.blocks.now c.args.addr n) (omega arith) c.begun-count.ensures.split) in
    let begins : c.index-blocks-count.result.range.base ≤ c.args.addr = begins_below c.args.blocks.now c.args.addr c.begun-count.result (c.begun-count.result - 1) c.index-blocks-count.result c.begun-count.ensures.split (omega arith) c.index-blocks-count.is in
    let outside = inside ∙ ap (λ b. covers b.range c.args.addr) (sym c.index-blocks-count.is) ∙ past_end c.index-blocks-count.result.range c.args.addr (omega (arith, c.if-addr-range.true)) in
    let all = all_rows (ranges_of c.args.blocks.now) _ c.args.addr outside in
    (let e : c.len.result - 0 ≡ length c.args.tape.now.items = omega (arith, c.len.ensures) in e) ∙ sym (length-map c.args.tape.now.items addressed_row) ∙ sym all

pub returns : goal.returns
returns c =
    let b = c.index-blocks-count.result in
    let count = c.begun-count.result in
    let begins : b.range.base ≤ c.args.addr = begins_below c.args.blocks.now c.args.addr count (count - 1) b c.begun-count.ensures.split (omega arith) c.index-blocks-count.is in
    let ends : c.args.addr < b.range.base + b.range.size = omega (arith, c.if-addr-range.false) in
    let inside = one_inside c.args.blocks.now c.args.addr (count - 1) b c.requires.fits.ascending (omega (arith, c.begun-count.ensures.bound)) (subst (λ n. Split c.args.blocks.now c.args.addr n) (omega arith) c.begun-count.ensures.split) ∙ ap (λ b. covers b.range c.args.addr) (sym c.index-blocks-count.is) ∙ covered b.range c.args.addr begins ends in
    let right = subst (λ b. HasFirsts (rows_of c.args.tape.now.items) b) (sym c.index-blocks-count.is) (c.requires.fits.firsts (count - 1) b (omega (arith, c.begun-count.ensures.bound))) in
    let n = near_by c.args.tape.now.items (ranges_of c.args.blocks.now) b c.args.addr (c.args.addr / 256 - b.range.base / 256) c.index.result.now c.index-2.result.now c.requires.ascending right inside begins ends refl c.index.ensures c.index-2.ensures in
    record { order = n.order; within = n.within; below = n.below; above = n.above; number = n.number }
