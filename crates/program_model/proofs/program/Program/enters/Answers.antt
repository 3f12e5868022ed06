use Rattle.std.proofs.Common.{sym, ◌∙◌}
use Rattle.program_model.proofs.Points.{enters_at}
use Rattle.program_model.proofs.program.Program.enters.Goals as goal

pub returns : goal.returns
returns c = λ set h. enters_at c.args.self.now set c.args.entry c.args.q c.place.result c.place.ensures (sym c.arrives.ensures ∙ h)
