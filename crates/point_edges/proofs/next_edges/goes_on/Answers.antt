use Rattle.std.proofs.Common.{◌≡◌, true, false, eqb, not, length, List, refl, sym, ap, ◌∙◌}
use Rattle.ot_base.specs.declared.place.Place.{Place}
use Rattle.operation_defs.specs.declared.insn.Insn.{Insn}
use Rattle.flow_defs.specs.Coded.{Coded}
use Rattle.flow_defs.specs.Arrival.{insn_of_object, is_dead_end}
use Rattle.flow_defs.specs.Code.{point_at}
use Rattle.flow_defs.specs.Edges.{ends_flow, static_targets}
use Rattle.point_edges.proofs.Going.{behind_other, behind_static}
use Rattle.point_edges.proofs.next_edges.goes_on.Goals as goal

pub returns-then-not-is_empty : goal.returns-then-not-is_empty
returns-then-not-is_empty c =
    let o : Coded = c.args.points.now in
    let targets : c.static_targets.result.now ≡ static_targets o (point_at o c.args.n) = c.static_targets.ensures ∙ ap (λ (e : Coded). static_targets e (point_at e c.args.n)) c.arrivals-arrivals.ensures in
    behind_static o (point_at o c.args.n) (ap (λ (places : List Place). eqb (length places) 0) (sym targets) ∙ sym c.is_empty.ensures ∙ c.if-not-is_empty.true)

pub returns-then-not-ends_flow : goal.returns-then-not-ends_flow
returns-then-not-ends_flow c =
    let o : Coded = c.args.points.now in
    let targets : c.static_targets.result.now ≡ static_targets o (point_at o c.args.n) = c.static_targets.ensures ∙ ap (λ (e : Coded). static_targets e (point_at e c.args.n)) c.arrivals-arrivals.ensures in
    let ends : c.ends_flow.result ≡ ends_flow (insn_of_object o (point_at o c.args.n)).op = c.ends_flow.ensures ∙ ap (λ (i : Insn). ends_flow i.op) c.requires.insn in
    behind_other o (point_at o c.args.n) false c.is_dead_end.result
    (ap (λ (places : List Place). eqb (length places) 0) (sym targets) ∙ sym c.is_empty.ensures ∙ c.if-not-is_empty.false)
    (sym c.if-not-ends_flow.true ∙ ends)
    (c.is_dead_end.ensures ∙ ap (λ (e : Coded). is_dead_end e (point_at e c.args.n)) c.arrivals-arrivals.ensures)

pub returns-else-not-ends_flow : goal.returns-else-not-ends_flow
returns-else-not-ends_flow c =
    let o : Coded = c.args.points.now in
    let targets : c.static_targets.result.now ≡ static_targets o (point_at o c.args.n) = c.static_targets.ensures ∙ ap (λ (e : Coded). static_targets e (point_at e c.args.n)) c.arrivals-arrivals.ensures in
    let ends : c.ends_flow.result ≡ ends_flow (insn_of_object o (point_at o c.args.n)).op = c.ends_flow.ensures ∙ ap (λ (i : Insn). ends_flow i.op) c.requires.insn in
    ap not c.if-not-ends_flow.false
    ∙ behind_other o (point_at o c.args.n) true (is_dead_end o (point_at o c.args.n))
    (ap (λ (places : List Place). eqb (length places) 0) (sym targets) ∙ sym c.is_empty.ensures ∙ c.if-not-is_empty.false)
    (sym c.if-not-ends_flow.false ∙ ends) refl
