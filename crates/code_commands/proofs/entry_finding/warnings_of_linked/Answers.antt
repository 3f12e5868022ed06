use Rattle.code_commands.specs.Entry.{no_memory}
use Rattle.code_commands.proofs.entry_finding.warnings_of_linked.Goals as goal

-- the graph is that of the program under these lists
pub check-requires : goal.check-requires
check-requires c = record { lists = c.args.lists.now; tells = c.in_ok-graph.ensures.tells }

pub returns-clause-stopped : goal.returns-clause-stopped
returns-clause-stopped c bytes is = no_memory
