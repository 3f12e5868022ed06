-- What keeps bytes from being checked, and that nothing does where they are an object in order.
use Rattle.std.proofs.Common.{◌≡◌, ℕ, List, refl, sym, ◌∙◌, subst}
use Rattle.ot_base.specs.NameLists.{NameLists}
use Rattle.elf_objects.specs.Elf.{Elf}
use Rattle.elf_objects.specs.Object.{FirstFault, IsObject, Refuses}
use Rattle.elf_objects.specs.declared.fault.ElfFault.{ElfFault}
use Rattle.elf_objects.proofs.FirstFault.{FirstFault-not}
use Rattle.x86_map.specs.declared.map.Map.{Map}
use Rattle.flow_defs.specs.Coded.{coded_by}
use Rattle.x86_decode.specs.Decoding.{OneOutcome}
use Rattle.flow_defs.specs.Faults.{IsFirstFlowFault}
use Rattle.flow_defs.specs.declared.fault.FlowFault.{FlowFault}
use Rattle.object_points.specs.Linked.{IsLinked, IsLinkFault}
use Rattle.object_points.specs.declared.fault.LinkFault.{LinkFault}
use Rattle.command_base.specs.Code.{IsLinkStop, flow_stop}
use Rattle.command_base.specs.Reading.{parse_stop}
use Rattle.command_base.proofs.DumpLaws.{one_object}
use Rattle.command_base.proofs.FaultStops.{of_flow, of_link, of_parse}
use Rattle.command_base.specs.declared.stop.CommandStop.{CommandStop}
use Rattle.command_base.specs.declared.stop.CommandStop.TheVariants as stop
use Rattle.command_base.specs.Code.{IsInOrder}
use Rattle.code_commands.specs.Entry.{IsUncheckable, malformed, no_memory, unflowed, unlinked}
use Rattle.code_commands.proofs.NoFault.{not_unflowed, not_unlinked}

-- ---- from the faults of those who read an object

pub no_object : (map : Map) (bytes : List ℕ) (lists : NameLists) (e : ElfFault) → Refuses (FirstFault bytes) e → IsUncheckable map bytes lists (parse_stop e)
no_object map bytes lists e h = of_parse (IsUncheckable map bytes lists) bytes e (λ first fault. malformed fault) no_memory h

pub no_link : (s : CommandStop) (map : Map) (bytes : List ℕ) (lists : NameLists) (o : Elf) (met : LinkFault) → IsObject bytes o → IsLinkFault (coded_by map o) lists met → IsLinkStop o met s → IsUncheckable map bytes lists s
no_link s map bytes lists o met is says h =
    of_link (IsUncheckable map bytes lists) o met s (λ told some same worded. unlinked o is (λ e. some (sym same ∙ e)) (subst (IsLinkFault (coded_by map o) lists) (sym same) says) worded) no_memory h

pub no_flow : (map : Map) (bytes : List ℕ) (lists : NameLists) (o : Elf) (fault : FlowFault) → IsObject bytes o → IsLinked (coded_by map o) lists → IsFirstFlowFault (coded_by map o) fault → IsUncheckable map bytes lists (flow_stop fault)
no_flow map bytes lists o fault is linked h = of_flow (IsUncheckable map bytes lists) fault (λ some. unflowed o is some linked h) no_memory

-- ---- where an object is in order

-- the same of the object as these bytes have it
moved : (map : Map) (bytes : List ℕ) (lists : NameLists) (o p : Elf) → IsObject bytes o → IsObject bytes p → IsInOrder (coded_by map o) lists → IsInOrder (coded_by map p) lists
moved map bytes lists o p is other order = subst (λ (x : Elf). IsInOrder (coded_by map x) lists) (one_object bytes o p is other) order

-- only want of memory keeps bytes from being checked that are an object in order
pub order_excluded : OneOutcome → (s : CommandStop) (map : Map) (bytes : List ℕ) (lists : NameLists) (o : Elf) → IsObject bytes o → IsInOrder (coded_by map o) lists → IsUncheckable map bytes lists s → s ≡ stop.NoMemory
order_excluded one s map bytes lists o is order (malformed fault) = absurd (FirstFault-not bytes _ fault is.well_formed)
order_excluded one s map bytes lists o is order (unlinked p other some why worded) = absurd (not_unlinked one (coded_by map p) lists _ some (moved map bytes lists o p is other order).linked why)
order_excluded one s map bytes lists o is order (unflowed p other some linked why) = absurd (not_unflowed (coded_by map p) _ some (moved map bytes lists o p is other order).flow why)
order_excluded one s map bytes lists o is order no_memory = refl
