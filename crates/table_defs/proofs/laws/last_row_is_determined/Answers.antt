use Rattle.table_defs.proofs.LastRow.{one_row_holds}
use Rattle.table_defs.proofs.laws.last_row_is_determined.Goals as goal

pub returns : goal.returns
returns c = one_row_holds
