use Rattle.table_defs.proofs.LastRow.{found_is_last, none_found_is_none}
use Rattle.table_defs.proofs.laws.find_is_exact.Goals as goal

pub returns-clause-found : goal.returns-clause-found
returns-clause-found c = found_is_last

pub returns-clause-none : goal.returns-clause-none
returns-clause-none c = none_found_is_none
