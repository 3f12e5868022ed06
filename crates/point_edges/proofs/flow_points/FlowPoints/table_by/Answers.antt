use Rattle.std.proofs.Common.{◌≡◌, false, sym, ap, ◌∙◌}
use Rattle.flow_defs.specs.Coded.{Coded}
use Rattle.flow_defs.specs.Arrival.{insn_of_object}
use Rattle.flow_defs.specs.Code.{point_at}
use Rattle.flow_defs.specs.Targets.{destination_of}
use Rattle.operation_defs.specs.declared.op.Op.{Op}
use Rattle.flow_defs.specs.declared.destination.Destination.{Destination}
use Rattle.point_arrivals.specs.Remade.{may_go_by_table}
use Rattle.point_arrivals.proofs.Tableless.{tableless_by}
use Rattle.point_edges.proofs.flow_points.FlowPoints.table_by.Goals as goal

pub returns-then-not-may_go_by_table : goal.returns-then-not-may_go_by_table
returns-then-not-may_go_by_table c =
    let o : Coded = c.args.self.now in
    let none : may_go_by_table (insn_of_object o (point_at o c.args.n)).op (destination_of o (point_at o c.args.n)) ≡ false =
    ap (λ (op : Op). may_go_by_table op (destination_of o (point_at o c.args.n))) (sym c.requires.op)
    ∙ ap (λ (to : Destination). may_go_by_table c.args.op to) (sym c.requires.to)
    ∙ sym c.may_go_by_table.ensures
    ∙ c.if-not-may_go_by_table.true in
    sym (tableless_by o c.args.n c.requires.point none)
