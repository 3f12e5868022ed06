use Rattle.table_defs.proofs.WorkedPlacement as worked
use Rattle.table_defs.proofs.worked.worked_placement.Goals as goal

pub returns : goal.returns
returns c = worked.placed
