use Rattle.std.proofs.Common.{ap, ◌∙◌}
use Rattle.operation_defs.specs.declared.insn.Insn.{Insn}
use Rattle.flow_defs.specs.Coded.{Coded}
use Rattle.flow_defs.specs.Code.{point_at}
use Rattle.flow_defs.specs.Marks.{calls_into_function, is_inner_call_by}
use Rattle.point_edges.proofs.into_functions.calls_into_function.Goals as goal

pub returns : goal.returns
unfolding calls_into_function
returns c =
    let o : Coded = c.args.points.now in
    c.is_inner_branch.ensures
    ∙ ap (λ (e : Coded). is_inner_call_by e (point_at e c.args.n) c.args.insn.op) c.places.ensures
    ∙ ap (λ (insn : Insn). is_inner_call_by o (point_at o c.args.n) insn.op) c.requires.insn
