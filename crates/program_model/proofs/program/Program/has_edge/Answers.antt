use Rattle.program_model.proofs.Points.{contains_at}
use Rattle.program_model.proofs.program.Program.has_edge.Goals as goal

pub returns-in-Some : goal.returns-in-Some
returns-in-Some c = λ h.
    contains_at c.args.self.now (λ x. x.goes.items) c.args.q c.in-Some.point.now c.as_slice.result.now c.args.edge c.in-Some.ensures c.as_slice.ensures.value (c.has_edge.ensures h)
