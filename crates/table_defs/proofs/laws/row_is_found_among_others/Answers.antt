use Rattle.table_defs.proofs.AmongOthers.{row_among_others}
use Rattle.table_defs.proofs.laws.row_is_found_among_others.Goals as goal

pub returns : goal.returns
returns c = row_among_others
