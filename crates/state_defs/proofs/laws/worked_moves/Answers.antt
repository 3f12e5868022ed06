use Rattle.state_defs.proofs.Worked.{worked_moves}
use Rattle.state_defs.proofs.laws.worked_moves.Goals as goal

pub returns : goal.returns
returns c = worked_moves
