use Rattle.object_law.proofs.RowsNamed.{rows_named}
use Rattle.object_law.proofs.symbol_laws.rows_are_named.Goals as goal

pub returns : goal.returns
returns c = rows_named
