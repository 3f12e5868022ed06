use Rattle.std.proofs.Common.{sym, subst}
use Rattle.flow_defs.specs.Coded.{Coded}
use Rattle.code_commands.specs.Entry.{IsUncheckable}
use Rattle.code_commands.proofs.EntryUncheckable.{no_flow}
use Rattle.code_commands.proofs.entry_finding.graph_of.Goals as goal

pub returns-in-Err-clause-stopped : goal.returns-in-Err-clause-stopped
returns-in-Err-clause-stopped c bytes is =
    let o : Coded = c.args.linked.now in
    subst (IsUncheckable o.map bytes c.args.lists.now) (sym c.flow_stop.ensures) (no_flow o.map bytes c.args.lists.now o.elf c.in-Err.fault is c.requires c.in-Err.ensures.err)
