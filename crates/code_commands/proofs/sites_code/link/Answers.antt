use Rattle.code_commands.proofs.SitesGets.{no_link}
use Rattle.code_commands.proofs.sites_code.link.Goals as goal

pub returns-in-Err-clause-stopped : goal.returns-in-Err-clause-stopped
returns-in-Err-clause-stopped c options bytes is = no_link c.link_stop.result options c.args.map bytes c.args.names.now c.args.object.now c.in-Err.fault is c.in-Err.ensures.err c.link_stop.ensures
