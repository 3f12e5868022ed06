use Rattle.orc_bytes.proofs.OneList.{one_list_fits}
use Rattle.orc_bytes.proofs.laws.rows_are_determined.Goals as goal

pub returns : goal.returns
returns c = one_list_fits
