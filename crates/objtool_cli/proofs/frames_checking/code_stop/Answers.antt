use Rattle.std.proofs.Common.{sym, subst}
use Rattle.elf_objects.specs.Elf.{Elf}
use Rattle.flow_defs.specs.Coded.{coded_by}
use Rattle.object_check.specs.Code.{IsCodeFault}
use Rattle.objtool_cli.specs.Cfi.{IsUnchecked, out_of_memory}
use Rattle.objtool_cli.proofs.FramesGets.{link_fault_of, no_flow, no_link}
use Rattle.objtool_cli.proofs.frames_checking.code_stop.Goals as goal

pub link_stop-requires : goal.link_stop-requires
link_stop-requires c =
    let o : Elf = c.args.object.now in
    (c.requires.0, c.requires.1, link_fault_of (coded_by c.requires.0 o) c.requires.1 c.in-Link.fault (subst (IsCodeFault (coded_by c.requires.0 o) c.requires.1) c.in-Link.is c.requires.2))

pub returns-in-Link : goal.returns-in-Link
returns-in-Link c = λ map lists is.
    let o : Elf = c.args.object.now in
    no_link c.link_stop.result map lists o c.in-Link.fault (subst (IsCodeFault (coded_by map o) lists) c.in-Link.is is) c.link_stop.ensures

pub returns-in-Flow : goal.returns-in-Flow
returns-in-Flow c = λ map lists is.
    let o : Elf = c.args.object.now in
    subst (IsUnchecked map lists o) (sym c.flow_stop.ensures) (no_flow map lists o c.in-Flow.fault (subst (IsCodeFault (coded_by map o) lists) c.in-Flow.is is))

pub returns-in-NoMemory : goal.returns-in-NoMemory
returns-in-NoMemory c = λ map lists is. out_of_memory
