use Rattle.orc_merge.proofs.AlikeLemmas.{tell_alike}
use Rattle.orc_merge.proofs.laws.merged_rows_find_alike.Goals as goal

pub returns : goal.returns
returns c = tell_alike
