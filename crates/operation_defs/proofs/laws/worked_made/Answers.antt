use Rattle.operation_defs.proofs.Worked.{worked_made}
use Rattle.operation_defs.proofs.laws.worked_made.Goals as goal

pub returns : goal.returns
returns c = worked_made
