use Rattle.table_law.proofs.WorkedProgram as worked
use Rattle.table_law.proofs.walks.walks_worked.Goals as goal

pub returns : goal.returns
returns c = worked.walks c.walk_law.ensures
