-- What the faults of readers are told as is why the code isn't read, and why the object isn't checked.
use Rattle.ot_base.specs.NameLists.{NameLists}
use Rattle.flow_defs.specs.Coded.{Coded}
use Rattle.object_points.specs.declared.fault.LinkFault.{LinkFault}
use Rattle.object_points.specs.declared.fault.LinkFault.TheVariants as link
use Rattle.object_points.specs.Linked.{IsLinked, IsLinkFault}
use Rattle.flow_defs.specs.declared.fault.FlowFault.{FlowFault}
use Rattle.flow_defs.specs.declared.fault.FlowFault.TheVariants as flow
use Rattle.flow_defs.specs.Faults.{IsFirstFlowFault}
use Rattle.object_check.specs.Code.{IsCodeFault, unlinked, unflowed, no_memory}
use Rattle.object_check.specs.Order.{IsCheckFault}
use Rattle.object_check.specs.Order as order
use Rattle.object_check.specs.Told.{check_fault, flow_fault, link_fault}
use Rattle.object_check.specs.declared.fault.CodeFault.{CodeFault}

pub link_told : (o : Coded) (lists : NameLists) (fault : LinkFault) → IsLinkFault o lists fault → IsCodeFault o lists (link_fault fault)
link_told o lists link.NoMemory is = no_memory
link_told o lists (link.Text sec why) is = unlinked (link.Text sec why) (λ e. let z : ⊥ = cc in z) is
link_told o lists (link.Special why) is = unlinked (link.Special why) (λ e. let z : ⊥ = cc in z) is
link_told o lists (link.Index why) is = unlinked (link.Index why) (λ e. let z : ⊥ = cc in z) is
link_told o lists (link.Site why) is = unlinked (link.Site why) (λ e. let z : ⊥ = cc in z) is

pub flow_told : (o : Coded) (lists : NameLists) (fault : FlowFault) → IsLinked o lists → IsFirstFlowFault o fault → IsCodeFault o lists (flow_fault fault)
flow_told o lists flow.NoMemory linked is = no_memory
flow_told o lists (flow.FuncStart sym) linked is = unflowed (flow.FuncStart sym) (λ e. let z : ⊥ = cc in z) linked is
flow_told o lists (flow.NotBoundary list entry) linked is = unflowed (flow.NotBoundary list entry) (λ e. let z : ⊥ = cc in z) linked is
flow_told o lists (flow.StaticSite entry) linked is = unflowed (flow.StaticSite entry) (λ e. let z : ⊥ = cc in z) linked is
flow_told o lists (flow.NotCall entry) linked is = unflowed (flow.NotCall entry) (λ e. let z : ⊥ = cc in z) linked is
flow_told o lists (flow.NotFunction entry) linked is = unflowed (flow.NotFunction entry) (λ e. let z : ⊥ = cc in z) linked is

pub check_told : (o : Coded) (lists : NameLists) (fault : CodeFault) → IsCodeFault o lists fault → IsCheckFault o lists (check_fault fault)
check_told o lists _ (unlinked fault other is) = order.unlinked fault other is
check_told o lists _ (unflowed fault other linked is) = order.unflowed fault other linked is
check_told o lists _ no_memory = order.no_memory
