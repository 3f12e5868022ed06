use Rattle.std.proofs.Common.{◌≡◌, eqb, cond, get_or, arith}
use Rattle.std.proofs.lemmas.Bool.{ne_eqb}
use Rattle.x86_decode.proofs.UsualReading.{map_some, usual_opcode}
use Rattle.x86_decode.proofs.usual.read_usual_opcode.Goals as goal
use Rattle.x86_decode.proofs.usual.read_usual_opcode.Goals.{then-bytes-seen-eq15, else-bytes-seen-eq15}

pub returns : goal.returns
returns c =
    let number = c.if-bytes-seen-eq15.number in
    let first = get_or c.args.bytes.now c.args.seen 0 in
    let is : number ≡ cond (eqb first 0x0F) 2 1 = elim c.if-bytes-seen-eq15.branch [
      | then-bytes-seen-eq15 w ↦ rw w.if-bytes-seen-eq15.true w.number-is
      | else-bytes-seen-eq15 w ↦ rw (ne_eqb _ _ w.if-bytes-seen-eq15.false) w.number-is
    ] in
    map_some _ _ c.read_behind_opcode.result (λ insn read.
    usual_opcode c.args.map c.args.rex c.args.seen c.args.bytes.now insn (omega (arith, c.requires.whole)) (omega (arith, c.type_inv.bytes c.args.seen)) c.requires.valid number is read) c.read_behind_opcode.ensures
