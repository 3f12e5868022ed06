use Rattle.std.proofs.Common.{ℕ, ◌-◌, ◌<◌, length, arith}
use Rattle.std.proofs.lemmas.List.Elements.{Contains-get_or}
use Rattle.flow_defs.specs.Coded.{Coded}
use Rattle.flow_defs.specs.Code.{no_point, point_at, points_of_object}
use Rattle.control_flow.proofs.RightBefore.{ends_by}
use Rattle.control_flow.proofs.preceding.neighbour.Goals as goal

pub returns-then-ends_at : goal.returns-then-ends_at
returns-then-ends_at c =
    let o : Coded = c.args.places.now in
    let m : ℕ = c.args.n - 1 in
    let inside : m < length (points_of_object o) = omega (arith, c.requires, c.if-n-eq0.false) in
    let h = c.ends_at.ensures.0 c.if-ends_at.true in
    ends_by o (point_at o c.args.n) (point_at o m) c.point-point.result c.point.result c.decoded_insn-insn.result
    (Contains-get_or (points_of_object o) m no_point inside) c.point-point.ensures c.point.ensures c.decoded_insn-insn.ensures h.0 h.1 h.2
