use Rattle.std.proofs.Common.{◌≡◌, Ok, sym, drop, arith}
use Rattle.x86_decode.specs.Reading.{opcode_at}
use Rattle.x86_decode.specs.UsualForms.{usual_prefixes}
use Rattle.x86_decode.proofs.UsualReading.{map_some, usual}
use Rattle.x86_decode.proofs.usual.read_usual.Goals as goal

pub returns : goal.returns
returns c =
    map_some (λ insn. opcode_at (usual_prefixes c.args.map c.then_some-rex.result) c.count.result (drop c.count.result c.args.bytes.now) ≡ Ok insn) _ c.read_usual_opcode.result (λ insn read.
    usual c.is_rex.result c.args.map c.args.bytes.now insn (omega (arith, c.requires)) (omega (arith, c.type_inv.bytes 0)) (sym c.is_rex.ensures) (rw (c.count.ensures, c.then_some-rex.ensures) at read)) c.read_usual_opcode.ensures
