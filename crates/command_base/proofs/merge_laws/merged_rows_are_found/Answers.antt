use Rattle.command_base.proofs.FoundLemmas.{is_found, is_read}
use Rattle.command_base.proofs.merge_laws.merged_rows_are_found.Goals as goal

pub returns-clause-read : goal.returns-clause-read
returns-clause-read c = is_read

pub returns-clause-found : goal.returns-clause-found
returns-clause-found c = is_found
