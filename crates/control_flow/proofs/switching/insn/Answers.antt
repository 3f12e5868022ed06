use Rattle.std.proofs.Common.{◌≡◌, sym, ap, ◌∙◌}
use Rattle.operation_defs.specs.declared.insn.Insn.{Insn}
use Rattle.flow_defs.specs.Coded.{Coded}
use Rattle.flow_defs.specs.Arrival.{decoded_insn, insn_of_object}
use Rattle.flow_defs.specs.Code.{point_at}
use Rattle.flow_defs.specs.Switching.{loads_stack_of}
use Rattle.control_flow.specs.Switched.{is_other}
use Rattle.control_flow.proofs.SwitchedInsns.{base_other, stays_other, unswitched}
use Rattle.control_flow.proofs.switching.insn.Goals as goal

pub returns-then-not-is_other : goal.returns-then-not-is_other
returns-then-not-is_other c =
    let o : Coded = c.args.points.now in
    let insn : c.in_ok-insn.insn ≡ insn_of_object o (point_at o c.args.n) = c.in_ok-insn.ensures ∙ ap (λ (e : Coded). insn_of_object e (point_at e c.args.n)) c.arrivals.ensures in
    let decoded : c.decoded_insn-decoded.result ≡ decoded_insn o (point_at o c.args.n) = c.decoded_insn-decoded.ensures ∙ ap (λ (e : Coded). decoded_insn e (point_at e c.args.n)) c.places.ensures in
    unswitched o c.args.switching.lists.now (point_at o c.args.n) c.in_ok-insn.insn insn (ap (λ (i : Insn). is_other i.op) (sym decoded) ∙ sym c.is_other.ensures ∙ c.if-not-is_other.true)

pub returns-then-not-loads_stack : goal.returns-then-not-loads_stack
returns-then-not-loads_stack c =
    let o : Coded = c.args.points.now in
    let insn : c.in_ok-insn.insn ≡ insn_of_object o (point_at o c.args.n) = c.in_ok-insn.ensures ∙ ap (λ (e : Coded). insn_of_object e (point_at e c.args.n)) c.arrivals.ensures in
    let decoded : c.decoded_insn-decoded.result ≡ decoded_insn o (point_at o c.args.n) = c.decoded_insn-decoded.ensures ∙ ap (λ (e : Coded). decoded_insn e (point_at e c.args.n)) c.places.ensures in
    stays_other o c.args.switching.lists.now (point_at o c.args.n) c.in_ok-insn.insn insn (ap (λ (i : Insn). is_other i.op) (sym decoded) ∙ sym c.is_other.ensures ∙ c.if-not-is_other.false)
    (ap (λ (e : Coded). loads_stack_of e c.args.switching.lists.now (point_at e c.args.n)) (sym c.places-2.ensures) ∙ sym c.loads_stack.ensures ∙ c.if-not-loads_stack.true)

pub returns : goal.returns
returns c =
    let o : Coded = c.args.points.now in
    let insn : c.in_ok-insn.insn ≡ insn_of_object o (point_at o c.args.n) = c.in_ok-insn.ensures ∙ ap (λ (e : Coded). insn_of_object e (point_at e c.args.n)) c.arrivals.ensures in
    let decoded : c.decoded_insn-decoded.result ≡ decoded_insn o (point_at o c.args.n) = c.decoded_insn-decoded.ensures ∙ ap (λ (e : Coded). decoded_insn e (point_at e c.args.n)) c.places.ensures in
    base_other o c.args.switching.lists.now (point_at o c.args.n) c.in_ok-insn.insn insn (ap (λ (i : Insn). is_other i.op) (sym decoded) ∙ sym c.is_other.ensures ∙ c.if-not-is_other.false)
    (ap (λ (e : Coded). loads_stack_of e c.args.switching.lists.now (point_at e c.args.n)) (sym c.places-2.ensures) ∙ sym c.loads_stack.ensures ∙ c.if-not-loads_stack.false)
