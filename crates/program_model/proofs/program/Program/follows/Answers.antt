use Rattle.program_model.proofs.Points.{contains_at}
use Rattle.program_model.proofs.program.Program.follows.Goals as goal

pub returns-in-Some : goal.returns-in-Some
returns-in-Some c = λ h.
    contains_at c.args.self.now (λ x. x.after.items) c.args.q c.in-Some.point.now c.as_slice.result.now c.args.to c.in-Some.ensures c.as_slice.ensures.value (c.has_number.ensures h)
