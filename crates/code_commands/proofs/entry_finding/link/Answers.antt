use Rattle.code_commands.proofs.EntryUncheckable.{no_link}
use Rattle.code_commands.proofs.entry_finding.link.Goals as goal

pub returns-in-Err-clause-stopped : goal.returns-in-Err-clause-stopped
returns-in-Err-clause-stopped c bytes is = no_link c.link_stop.result c.args.map bytes c.args.lists.now c.args.object.now c.in-Err.fault is c.in-Err.ensures.err c.link_stop.ensures
