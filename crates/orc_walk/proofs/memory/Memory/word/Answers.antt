use Rattle.std.proofs.Common.{◌≡◌, ◌+◌, None, Some, ap, refl, sym, ◌∙◌, arith}
use Rattle.orc_walk.specs.Memory.{bytes_at, byte_at}
use Rattle.orc_walk.proofs.Pieces.{word_missing, word_more, word_there}
use Rattle.orc_walk.proofs.memory.Memory.word.Goals as goal

pub loop-i-init : goal.loop-i-init
unfolding bytes_at
loop-i-init c = refl

pub returns-in_err-byte : goal.returns-in_err-byte
returns-in_err-byte c =
    let none : byte_at c.args.self.now (c.args.addr + c.loop-i.i) ≡ None = sym c.byte.ensures ∙ c.in_err-byte.was in
    c.from_residual.ensures ∙ sym (word_missing _ _ c.loop-i.i (omega arith) none)

pub loop-i-preserved : goal.loop-i-preserved
loop-i-preserved c =
    word_more c.args.self.now c.args.addr c.loop-i.i c.loop-i.byte-items c.in_ok-byte.field-0 (omega arith) c.loop-i.invariant (sym c.byte.ensures ∙ c.in_ok-byte.was)

pub returns : goal.returns
returns c = ap Some c.from_le_bytes.ensures ∙ sym (word_there c.args.self.now c.args.addr c.loop-i.i c.loop-i.byte-items (omega arith) c.loop-i-test.array_long c.loop-i.invariant)
