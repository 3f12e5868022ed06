use Rattle.table_law.proofs.Strays as strays
use Rattle.table_law.proofs.walks.strays_worked.Goals as goal

pub returns : goal.returns
returns c = strays.strays c.walk_is_determined.ensures
