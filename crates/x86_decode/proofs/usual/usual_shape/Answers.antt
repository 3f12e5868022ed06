use Rattle.std.proofs.Common.{sym, arith}
use Rattle.x86_decode.proofs.UsualLooks.{known_fits}
use Rattle.x86_decode.proofs.usual.usual_shape.Goals as goal

pub returns-in-Some : goal.returns-in-Some
returns-in-Some c = known_fits c.args.map c.args.rex c.args.number c.args.opcode c.args.first c.in-Some.shape c.requires.high (omega arith) c.requires.valid (sym c.in-Some.ensures)
