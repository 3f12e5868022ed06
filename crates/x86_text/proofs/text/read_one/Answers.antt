use Rattle.std.proofs.Common.{◌<◌, arith, sym}
use Rattle.operation_defs.specs.declared.insn.Insn.{Insn}
use Rattle.x86_text.specs.declared.placed.PlacedInsn.{PlacedInsn}
use Rattle.x86_text.specs.Code.{Body, read_by}
use Rattle.x86_text.proofs.KnownLemmas.{decoded_lengths}
use Rattle.x86_text.proofs.ReadLemmas.{adds_nothing, adds_more, decoded_stands_in}
use Rattle.x86_text.proofs.text.read_one.Goals as goal

pub returns-clause-behind : goal.returns-clause-behind
returns-clause-behind c =
    let long : 0 < c.in_ok-insn.insn.len = (decoded_lengths c.args.body.now c.args.off (λ k. omega (arith, c.type_inv.body k)) c.args.map c.in_ok-insn.insn c.in_ok-insn.ensures.insn).0 in
    omega arith

pub returns-clause-read : goal.returns-clause-read
returns-clause-read c =
    let body : Body = read_by c.args.map c.args.body.now in
    let insn : Insn = c.in_ok-insn.insn in
    let p : PlacedInsn = record { off = c.args.off; insn = insn } in
    adds_more body c.args.off c.args.offsets.now.items c.args.offsets.now.items c.push.new.self.items c.args.jumps.now.items c.args.jumps.now.items c.push_table_jump.new.jumps.items c.args.insns.now c.args.insns.now c.read.new.self p
    (adds_nothing body c.args.off c.args.offsets.now.items c.args.jumps.now.items c.args.insns.now)
    (decoded_stands_in body (λ k. omega (arith, c.type_inv.body k)) c.args.off insn c.requires.boundary c.requires.inside c.in_ok-insn.ensures.insn)
    c.in_ok-push.ensures.items (c.in_ok-push_table_jump.ensures c.args.insns.now insn c.in_ok-insn.ensures.added (sym c.may_use_table.ensures)) c.in_ok-insn.ensures.added
