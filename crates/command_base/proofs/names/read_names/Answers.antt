use Rattle.command_base.specs.Names.{no_lists}
use Rattle.command_base.proofs.names.read_names.Goals as goal

pub returns-in-Err-clause-stopped : goal.returns-in-Err-clause-stopped
returns-in-Err-clause-stopped g c = no_lists
