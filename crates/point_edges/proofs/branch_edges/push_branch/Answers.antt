use Rattle.std.proofs.Common.{sym, ◌∙◌}
use Rattle.std.proofs.lemmas.Result.{on_ok_weaker}
use Rattle.flow_defs.specs.Coded.{Coded}
use Rattle.flow_defs.specs.Code.{point_at}
use Rattle.point_edges.proofs.Pushing.{other_edges, through_edges}
use Rattle.point_edges.proofs.branch_edges.push_branch.Goals as goal

pub returns-then-is_some : goal.returns-then-is_some
returns-then-is_some c =
    let o : Coded = c.args.points.now in
    through_edges o (point_at o c.args.n) c.args.into.now.items c.args.branch.through c.requires.through (sym c.is_some.ensures ∙ c.if-is_some.true)

pub returns : goal.returns
returns c =
    let o : Coded = c.args.points.now in
    on_ok_weaker c.push_by.result
    (λ pushed. pushed ∙ other_edges o (point_at o c.args.n) c.args.into.now.items c.args.insn c.args.branch.through c.requires.through (sym c.is_some.ensures ∙ c.if-is_some.false) c.requires.insn)
    c.push_by.ensures
