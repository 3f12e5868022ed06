use Rattle.state_defs.proofs.Worked.{worked_rows}
use Rattle.state_defs.proofs.laws.worked_rows.Goals as goal

pub returns : goal.returns
returns c = worked_rows
