use Rattle.std.proofs.Common.{ℕ, ◌<◌, subst, arith}
use Rattle.flow_defs.specs.Coded.{Coded}
use Rattle.object_law.specs.Flows.{ObjectIsInOrder}
use Rattle.control_flow.proofs.Behind.{behind_by}
use Rattle.control_flow.proofs.rares.is_behind_plain.Goals as goal

pub returns-then-point-eq0 : goal.returns-then-point-eq0
returns-then-point-eq0 c = λ is.
    let o : Coded = c.args.places.now in
    let n : ℕ = c.args.n in
    let order : ObjectIsInOrder o = subst ObjectIsInOrder c.linked.ensures c.object_is_in_order.ensures in
    let some : 0 < n = omega (arith, c.if-n-eq0.false) in
    let ends = c.ends_at.ensures.0 is in
    behind_by o n c.point.result c.point-point.result c.decoded_insn-len.result order.bytes some c.requires.point c.point.ensures c.point-point.ensures c.decoded_insn-len.ensures c.if-point-eq0.true ends.0 ends.1 ends.2
