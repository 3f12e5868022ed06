use Rattle.code_commands.specs.Sites.{no_memory}
use Rattle.code_commands.proofs.sites_code.sites_of_linked.Goals as goal

pub returns-in-Err-clause-stopped : goal.returns-in-Err-clause-stopped
returns-in-Err-clause-stopped c bytes is = no_memory
