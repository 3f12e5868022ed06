use Rattle.std.proofs.Common.{◌≡◌, ◌+◌, ◌-◌, sym, ap, ◌∙◌, w32, to_z, of_z, drop, take, arith}
use Rattle.std.proofs.lemmas.Int.{to_z-of_z}
use Rattle.x86_decode.specs.Fields.{signed}
use Rattle.x86_decode.specs.Operation.{operation_by}
use Rattle.x86_decode.proofs.UsualReading.{branch_read}
use Rattle.x86_decode.proofs.usual.read_branch.Goals as goal

pub returns : goal.returns
returns c =
    let len = c.in_ok-len.len in
    let end = c.args.end in
    let rel = c.signed_number-rel.result in
    let whole : end + len - end ≡ len = omega arith in
    let told : rel ≡ signed (take len (drop end c.args.bytes.now)) = rw whole at c.signed_number-rel.ensures in
    let passed : to_z w32 (of_z w32 rel) ≡ rel = grind (arith, to_z-of_z) in
    λ map rex valid. branch_read map rex c.args.number c.args.opcode end len c.args.bytes.now c.in_ok-op.op c.requires.first c.requires.last (omega arith) valid
    (sym c.in_ok-len.ensures.len) (omega (arith, c.in_ok-len.ensures.short, c.requires.whole))
    (λ f is. sym (ap (λ a. operation_by a f) c.action_at.ensures) ∙ c.in_ok-op.ensures f (is ∙ sym told ∙ sym passed))
