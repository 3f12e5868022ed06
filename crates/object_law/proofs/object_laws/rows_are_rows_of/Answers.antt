use Rattle.object_law.proofs.PlacedRows.{rows_few, rows_placed}
use Rattle.object_law.proofs.object_laws.rows_are_rows_of.Goals as goal

pub returns : goal.returns
returns c = record { placed = rows_placed; few = rows_few }
