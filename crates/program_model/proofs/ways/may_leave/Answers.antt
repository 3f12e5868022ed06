use Rattle.std.proofs.Common.{◌∙◌}
use Rattle.program_model.proofs.Edges.{may_leave_at}
use Rattle.program_model.proofs.ways.may_leave.Goals as goal

pub returns-in-Some : goal.returns-in-Some
returns-in-Some c = λ set. c.leaves.ensures ∙ may_leave_at c.args.p.now set c.args.q c.in-Some.point.now c.in-Some.ensures
