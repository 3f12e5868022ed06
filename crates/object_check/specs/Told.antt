-- What the faults of those who read an object are told as.
use Rattle.object_points.specs.declared.fault.LinkFault.{LinkFault}
use Rattle.object_points.specs.declared.fault.LinkFault.TheVariants as link
use Rattle.flow_defs.specs.declared.fault.FlowFault.{FlowFault}
use Rattle.flow_defs.specs.declared.fault.FlowFault.TheVariants as flow
use Rattle.object_check.specs.declared.fault.CheckFault.{CheckFault}
use Rattle.object_check.specs.declared.fault.CheckFault.TheVariants as check
use Rattle.object_check.specs.declared.fault.CodeFault.{CodeFault}
use Rattle.object_check.specs.declared.fault.CodeFault.TheVariants.{Link, Flow, NoMemory}

-- want of memory is told as such
abbrev pub link_fault : LinkFault → CodeFault
link_fault link.NoMemory = NoMemory
link_fault fault = Link fault

abbrev pub flow_fault : FlowFault → CodeFault
flow_fault flow.NoMemory = NoMemory
flow_fault fault = Flow fault

-- why the code isn't read is why the object isn't checked
abbrev pub check_fault : CodeFault → CheckFault
check_fault (Link fault) = check.Link fault
check_fault (Flow fault) = check.Flow fault
check_fault NoMemory = check.NoMemory
