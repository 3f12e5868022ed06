use Rattle.table_law.proofs.Tells as tells
use Rattle.table_law.proofs.rows.rows_tell.Goals as goal

pub returns : goal.returns
returns c = tells.rows_tell c.find_is_exact.ensures.found c.find_is_exact.ensures.none c.unwinding_law.ensures
