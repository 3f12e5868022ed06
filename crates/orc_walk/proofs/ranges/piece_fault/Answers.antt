use Rattle.std.proofs.Common.{◌+◌, ◌<◌, ◌≤◌, ◌^◌, true, false, ltb, arith, ap, sym, ◌∙◌, length, Vec}
use Rattle.std.specs.declared.alloc.Global.{Global}
use Rattle.orc_walk.specs.Memory.{Piece, end_of}
use Rattle.orc_walk.proofs.PieceLemmas.{fault_shared, none_begins, one_overlaps, last_ends, at_most, not_past, not_over, is_below, is_not_below}
use Rattle.orc_walk.proofs.ranges.piece_fault.Goals as goal

pub returns-in_default-next_back : goal.returns-in_default-next_back
returns-in_default-next_back c =
    let x : Piece = record { base = c.args.base; bytes = c.args.bytes.now } in
    let none = (c.range.ensures.in_range tt).5 c.in_default-next_back.ensures.steps.0 in
    let low : end_of x ≤ 2 ^ 64 = omega arith in
    sym (fault_shared _ x false low (none_begins c.args.ranges.now x c.range.ensures.ordered (λ q lt. none q (tt, not_past q c.in-Some.last (omega arith)))))

pub returns-then-ends_above : goal.returns-then-ends_above
returns-then-ends_above c =
    let x : Piece = record { base = c.args.base; bytes = c.args.bytes.now } in
    let low : end_of x ≤ 2 ^ 64 = omega arith in
    let below = c.in-Some-next_back.below.now in
    let v : Vec _ Global = c.in-Some-next_back.earlier.now in
    let entry = (c.range.ensures.in_range tt).3 (below, v) _ c.in-Some-next_back.ensures.steps in
    let begins : below ≤ c.in-Some.last = not_over below c.in-Some.last entry.0.1 in
    let high : c.args.base < below + length v.items = is_below c.args.base (below + length v.items) (ap (λ bytes. ltb c.args.base (below + length bytes)) (sym c.deref.ensures.value) ∙ sym c.if-ends_above.ensures) in
    sym (fault_shared _ x true low (one_overlaps c.args.ranges.now x below v entry.1 (omega arith) high))

pub returns-else-ends_above : goal.returns-else-ends_above
returns-else-ends_above c =
    let x : Piece = record { base = c.args.base; bytes = c.args.bytes.now } in
    let low : end_of x ≤ 2 ^ 64 = omega arith in
    let below = c.in-Some-next_back.below.now in
    let v : Vec _ Global = c.in-Some-next_back.earlier.now in
    let entry = (c.range.ensures.in_range tt).3 (below, v) _ c.in-Some-next_back.ensures.steps in
    let greatest = (c.range.ensures.in_range tt).4 (below, v) _ c.in-Some-next_back.ensures.steps in
    let ends : below + length v.items ≤ c.args.base = is_not_below c.args.base (below + length v.items) (ap (λ bytes. ltb c.args.base (below + length bytes)) (sym c.deref.ensures.value) ∙ sym c.if-ends_above.ensures) in
    sym (fault_shared _ x false low (last_ends c.args.ranges.now x below v c.range.ensures.ordered c.requires.memory entry.1 (λ q lt there. at_most below q (greatest q (tt, not_past q c.in-Some.last (omega arith)) there)) ends))
