use Rattle.orc_merge.proofs.AlikeLemmas.{one_merge}
use Rattle.orc_merge.proofs.laws.merged_rows_are_determined.Goals as goal

pub returns : goal.returns
returns c = one_merge
