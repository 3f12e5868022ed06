use Rattle.std.proofs.Common.{◌≡◌, ◌+◌, ◌-◌, Ok, sym, ap, ◌∙◌, arith, drop, take, length}
use Rattle.std.proofs.lemmas.List.{take_rest}
use Rattle.x86_map.specs.declared.prefixes.Prefixes.{Prefixes}
use Rattle.x86_decode.specs.Reading.{rest_at}
use Rattle.x86_decode.specs.UsualForms.{usual_prefixes}
use Rattle.x86_decode.proofs.UsualReading.{map_some, usual_operands_by}
use Rattle.x86_decode.proofs.usual.read_usual_operands.Goals as goal

pub returns : goal.returns
returns c =
    let shape = c.in_ok-shape.shape in
    let p = usual_prefixes c.args.map c.args.rex in
    let at = c.args.end + c.count.result + c.count-2.result in
    let rest = λ (q : Prefixes). rest_at q c.args.number c.args.opcode c.then_some-modrm.result c.then_some-sib.result shape c.args.end in
    map_some (λ insn. rest c.usual_prefixes.result (take (length c.args.bytes.now - at) (drop at c.args.bytes.now)) ≡ Ok insn) _ c.read_usual_rest.result (λ insn read.
    usual_operands_by shape.modrm c.takes_sib.result p c.args.number c.args.opcode c.args.end c.count.result c.count-2.result c.then_some-modrm.result c.then_some-sib.result shape c.args.bytes.now insn
    c.requires.first (omega arith) (omega arith) (omega arith)
    c.then_some-modrm.ensures c.takes_sib.ensures c.count.ensures c.then_some-sib.ensures c.count-2.ensures (rw c.then_some-modrm.ensures c.in_ok-shape.ensures)
    (sym (ap (rest p) (take_rest c.args.bytes.now at)) ∙ rw c.usual_prefixes.ensures at read)) c.read_usual_rest.ensures
