use Rattle.table_law.proofs.TwoPaths as paths
use Rattle.table_law.proofs.rows.mismatch_is_two_paths.Goals as goal

pub returns : goal.returns
returns c = paths.mismatch_is_two_paths
