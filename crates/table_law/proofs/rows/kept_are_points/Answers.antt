use Rattle.unwinding_law.proofs.KeptPoints as points
use Rattle.table_law.proofs.rows.kept_are_points.Goals as goal

pub returns : goal.returns
returns c = points.kept_are_points
