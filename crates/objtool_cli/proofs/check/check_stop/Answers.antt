use Rattle.std.proofs.Common.{subst}
use Rattle.elf_objects.specs.Elf.{Elf}
use Rattle.ot_base.specs.NameLists.{NameLists}
use Rattle.flow_defs.specs.Coded.{Coded, coded_by}
use Rattle.object_points.specs.Linked.{IsLinkFault}
use Rattle.object_points.specs.declared.fault.LinkFault.{LinkFault}
use Rattle.object_check.specs.Order.{IsCheckFault, unlinked}
use Rattle.object_check.specs.declared.fault.CheckFault.TheVariants.{Link}
use Rattle.objtool_cli.proofs.check.check_stop.Goals as goal

link_fault_of : (o : Coded) (lists : NameLists) (fault : LinkFault) → IsCheckFault o lists (Link fault) → IsLinkFault o lists fault
link_fault_of o lists fault (unlinked _ known is) = is

pub link_stop-requires : goal.link_stop-requires
link_stop-requires c =
    let o : Elf = c.args.object.now in
    (c.requires.0, c.requires.1, link_fault_of (coded_by c.requires.0 o) c.requires.1 c.in-Link.fault (subst (IsCheckFault (coded_by c.requires.0 o) c.requires.1) c.in-Link.is c.requires.2))
