use Rattle.std.proofs.Common.{ℕ, Option, ap, ◌∙◌}
use Rattle.std.specs.Prelude.{is_none}
use Rattle.flow_defs.specs.Coded.{Coded}
use Rattle.flow_defs.specs.Code.{point_at}
use Rattle.point_arrivals.proofs.Following.{none_is}
use Rattle.point_edges.proofs.Parts.{bad_through, bad_unless}
use Rattle.point_edges.proofs.target_edges.is_bad_unless_through.Goals as goal

pub returns-then-is_none : goal.returns-then-is_none
returns-then-is_none c =
    let o : Coded = c.args.points.now in
    bad_unless o (point_at o c.args.n) c.args.insn c.requires.insn c.is_none.result (none_is c.args.branch.through c.is_none.result c.is_none.ensures ∙ ap (λ (x : Option ℕ). is_none x) c.requires.through) c.is_bad_branch.result c.if-is_none.true c.is_bad_branch.ensures

pub returns-else-is_none : goal.returns-else-is_none
returns-else-is_none c =
    let o : Coded = c.args.points.now in
    bad_through o (point_at o c.args.n) c.args.insn c.requires.insn c.is_none.result (none_is c.args.branch.through c.is_none.result c.is_none.ensures ∙ ap (λ (x : Option ℕ). is_none x) c.requires.through) c.if-is_none.false
