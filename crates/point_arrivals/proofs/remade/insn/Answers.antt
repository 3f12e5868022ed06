use Rattle.std.proofs.Common.{◌≡◌, sym, ap, ◌∙◌}
use Rattle.flow_defs.specs.Coded.{Coded}
use Rattle.flow_defs.specs.Arrival.{decoded_insn}
use Rattle.flow_defs.specs.Code.{point_at}
use Rattle.point_arrivals.proofs.Remaking.{remade_insn, same_insn}
use Rattle.point_arrivals.proofs.remade.insn.Goals as goal

pub returns-then-not-may_be_remade : goal.returns-then-not-may_be_remade
returns-then-not-may_be_remade c =
    let o : Coded = c.args.lists.now in
    let decoded : c.decoded_insn-insn.result ≡ decoded_insn o (point_at o c.args.n) = c.decoded_insn-insn.ensures ∙ ap (λ (e : Coded). decoded_insn e (point_at e c.args.n)) c.places.ensures in
    same_insn o (point_at o c.args.n) c.decoded_insn-insn.result decoded (sym c.may_be_remade.ensures ∙ c.if-not-may_be_remade.true)

pub returns : goal.returns
returns c =
    let o : Coded = c.args.lists.now in
    let decoded : c.decoded_insn-insn.result ≡ decoded_insn o (point_at o c.args.n) = c.decoded_insn-insn.ensures ∙ ap (λ (e : Coded). decoded_insn e (point_at e c.args.n)) c.places.ensures in
    remade_insn o (point_at o c.args.n) c.decoded_insn-insn.result c.in_ok-op.op decoded c.in_ok-op.ensures
