use Rattle.std.proofs.Common.{◌≡◌, ◌<◌, ◌≤◌, ◌+◌, ◌*◌, ◌/◌, ℕ, slice_index, ◌∙◌, arith}
use Rattle.text_numbers.specs.Ends.{end_from}
use Rattle.text_numbers.proofs.TextEnds.{end_within, found_before, found_behind}
use Rattle.text_numbers.proofs.ends.find_end.Goals as goal

pub returns-then-at-len-clause-value : goal.returns-then-at-len-clause-value
returns-then-at-len-clause-value c =
    found_before c.args.table.now c.args.at (64 * (c.args.at / 64 + 1)) (omega arith) (omega (arith, c.if-next-table.false)) c.len_before_zero-len.result c.len_before_zero-len.ensures.value (omega (arith, c.if-at-len.true))

pub returns-else-at-len-clause-value : goal.returns-else-at-len-clause-value
returns-else-at-len-clause-value c =
    c.requires.later (c.args.at / 64 + 1) (omega arith) (omega (arith, c.requires.blocks, c.if-next-table.false))
    ∙ found_behind c.args.table.now c.args.at (64 * (c.args.at / 64 + 1)) (omega arith) (omega (arith, c.if-next-table.false)) c.len_before_zero-len.result c.len_before_zero-len.ensures.value (omega (arith, c.if-at-len.false))

pub returns-else-at-len-clause-within : goal.returns-else-at-len-clause-within
returns-else-at-len-clause-within c =
    let v : slice_index c.args.ends.now (c.args.at / 64 + 1) ≡ end_from c.args.table.now c.args.at =
    c.requires.later (c.args.at / 64 + 1) (omega arith) (omega (arith, c.requires.blocks, c.if-next-table.false))
    ∙ found_behind c.args.table.now c.args.at (64 * (c.args.at / 64 + 1)) (omega arith) (omega (arith, c.if-next-table.false)) c.len_before_zero-len.result c.len_before_zero-len.ensures.value (omega (arith, c.if-at-len.false)) in
    let w = end_within c.args.table.now c.args.at c.requires.inside in
    omega (arith, v, w)
