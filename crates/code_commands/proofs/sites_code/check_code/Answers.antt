use Rattle.std.proofs.Common.{sym, subst}
use Rattle.flow_defs.specs.Coded.{Coded}
use Rattle.flow_defs.specs.Faults.{IsFirstFlowFault}
use Rattle.code_commands.specs.Sites.{GetNoSites, no_memory}
use Rattle.code_commands.proofs.SitesGets.{no_flow}
use Rattle.code_commands.proofs.sites_code.check_code.Goals as goal

pub returns-in-Ok-clause-stopped : goal.returns-in-Ok-clause-stopped
returns-in-Ok-clause-stopped c options bytes is =
    let o : Coded = c.args.linked.now in
    subst (GetNoSites options o.map bytes c.args.names.now) (sym c.flow_stop.ensures)
    (no_flow options o.map bytes c.args.names.now o.elf c.in-Err-check_flow.fault is c.requires (subst (λ (x : Coded). IsFirstFlowFault x c.in-Err-check_flow.fault) c.in-Ok.ensures c.in-Err-check_flow.ensures.err))

pub returns-clause-stopped : goal.returns-clause-stopped
returns-clause-stopped c options bytes is = no_memory
