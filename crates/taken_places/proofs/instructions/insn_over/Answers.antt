-- The last instruction that begins at the byte or before it.
use Rattle.std.proofs.Common.{◌<◌, ◌≤◌, ◌+◌, length, refl, sym, arith}
use Rattle.x86_text.specs.Code.{code_of, start}
use Rattle.taken_places.proofs.OverBytes.{finds_over, over_ends, over_found, over_none}
use Rattle.taken_places.proofs.instructions.insn_over.Goals as goal

pub returns-then-off-size-clause-found : goal.returns-then-off-size-clause-found
returns-then-off-size-clause-found c = sym (over_none 0 (length c.args.text.now.bytes) c.args.off (code_of c.args.text.now) c.count.ensures.whole (omega (arith, c.if-off-size.true, c.size.ensures)))

-- an instruction begins at the first byte
pub returns-in_err-begin-clause-found : goal.returns-in_err-begin-clause-found
returns-in_err-begin-clause-found c =
    let some : 0 < length c.args.text.now.bytes = omega (arith, c.if-off-size.false, c.size.ensures) in
    let above : c.args.off + 1 ≤ 0 = c.in_err-begin.ensures 0 (start 0 refl some) in
    absurd (omega (arith, above))

pub returns-clause-found : goal.returns-clause-found
returns-clause-found c =
    let inside : c.args.off < length c.args.text.now.bytes = omega (arith, c.if-off-size.false, c.size.ensures) in
    sym (over_found c.args.text.now c.args.off c.in_ok-begin.begin c.in_ok-insn.insn c.count.ensures.some c.count.ensures.whole c.count.ensures.boundaries c.in_ok-begin.ensures c.in_ok-insn.ensures.listed inside)

pub returns-clause-ends : goal.returns-clause-ends
returns-clause-ends c =
    over_ends c.args.off (record { off = c.in_ok-begin.begin; insn = c.in_ok-insn.insn }) (finds_over c.args.off (code_of c.args.text.now) (record { off = c.in_ok-begin.begin; insn = c.in_ok-insn.insn }) (sym (returns-clause-found c)))
