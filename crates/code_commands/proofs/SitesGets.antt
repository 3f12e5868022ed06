-- What keeps an object from getting site lists, and that nothing does where it gets them.
use Rattle.std.proofs.Common.{◌≡◌, ℕ, ◌≤◌, List, length, refl, sym, ◌∙◌, arith, subst}
use Rattle.ot_base.specs.NameLists.{NameLists}
use Rattle.elf_objects.specs.Elf.{Elf}
use Rattle.elf_objects.specs.Object.{FirstFault, IsObject, Refuses}
use Rattle.elf_objects.specs.declared.TheConstants.{MAX_SYMBOLS}
use Rattle.elf_objects.specs.declared.fault.ElfFault.{ElfFault}
use Rattle.elf_objects.proofs.FirstFault.{FirstFault-not}
use Rattle.x86_map.specs.declared.map.Map.{Map}
use Rattle.site_lists.specs.declared.options.ListOptions.{ListOptions}
use Rattle.flow_defs.specs.Coded.{coded_by}
use Rattle.x86_decode.specs.Decoding.{OneOutcome}
use Rattle.flow_defs.specs.Faults.{IsFirstFlowFault}
use Rattle.flow_defs.specs.declared.fault.FlowFault.{FlowFault}
use Rattle.object_points.specs.Linked.{IsLinked, IsLinkFault}
use Rattle.object_points.specs.declared.fault.LinkFault.{LinkFault}
use Rattle.command_base.specs.Code.{IsLinkStop, flow_stop}
use Rattle.command_base.specs.Reading.{parse_stop}
use Rattle.command_base.specs.declared.stop.CommandStop.{CommandStop}
use Rattle.command_base.specs.declared.stop.CommandStop.TheVariants as stop
use Rattle.site_lists.specs.SiteOutput.{site_section}
use Rattle.command_base.proofs.DumpLaws.{one_object}
use Rattle.command_base.proofs.FaultStops.{of_flow, of_link, of_parse}
use Rattle.code_commands.specs.SitesOrder.{GetsSites, most_sections, symbols_needed}
use Rattle.code_commands.specs.Sites.{GetNoSites, has_sites, malformed, no_memory, too_many_sections, too_many_symbols, unflowed, unlinked}
use Rattle.code_commands.proofs.NoFault.{none_and_some, not_unflowed, not_unlinked}

-- ---- from the faults of those who read an object

pub no_object : (options : ListOptions) (map : Map) (bytes : List ℕ) (lists : NameLists) (e : ElfFault) → Refuses (FirstFault bytes) e → GetNoSites options map bytes lists (parse_stop e)
no_object options map bytes lists e h = of_parse (GetNoSites options map bytes lists) bytes e (λ first fault. malformed fault) no_memory h

pub no_link : (s : CommandStop) (options : ListOptions) (map : Map) (bytes : List ℕ) (lists : NameLists) (o : Elf) (met : LinkFault) → IsObject bytes o → IsLinkFault (coded_by map o) lists met → IsLinkStop o met s → GetNoSites options map bytes lists s
no_link s options map bytes lists o met is says h =
    of_link (GetNoSites options map bytes lists) o met s (λ told some same worded. unlinked o is (λ e. some (sym same ∙ e)) (subst (IsLinkFault (coded_by map o) lists) (sym same) says) worded) no_memory h

pub no_flow : (options : ListOptions) (map : Map) (bytes : List ℕ) (lists : NameLists) (o : Elf) (fault : FlowFault) → IsObject bytes o → IsLinked (coded_by map o) lists → IsFirstFlowFault (coded_by map o) fault → GetNoSites options map bytes lists (flow_stop fault)
no_flow options map bytes lists o fault is linked h = of_flow (GetNoSites options map bytes lists) fault (λ some. unflowed o is some linked h) no_memory

-- ---- where an object gets them

-- the same of the object as these bytes have it
moved : (options : ListOptions) (map : Map) (bytes : List ℕ) (lists : NameLists) (o p : Elf) → IsObject bytes o → IsObject bytes p → GetsSites options (coded_by map o) lists → GetsSites options (coded_by map p) lists
moved options map bytes lists o p is other gets = subst (λ (x : Elf). GetsSites options (coded_by map x) lists) (one_object bytes o p is other) gets

-- only want of memory does
pub gets_excluded : OneOutcome → (s : CommandStop) (options : ListOptions) (map : Map) (bytes : List ℕ) (lists : NameLists) (o : Elf) → IsObject bytes o → GetsSites options (coded_by map o) lists → GetNoSites options map bytes lists s → s ≡ stop.NoMemory
gets_excluded one s options map bytes lists o is gets (malformed fault) = absurd (FirstFault-not bytes _ fault is.well_formed)
gets_excluded one s options map bytes lists o is gets (unlinked p other some why worded) = absurd (not_unlinked one (coded_by map p) lists _ some (moved options map bytes lists o p is other gets).in_order.linked why)
gets_excluded one s options map bytes lists o is gets (unflowed p other some linked why) = absurd (not_unflowed (coded_by map p) _ some (moved options map bytes lists o p is other gets).in_order.flow why)
gets_excluded one s options map bytes lists o is gets (has_sites {sec = sec} p other order at) = absurd (none_and_some (site_section p) sec (moved options map bytes lists o p is other gets).new at)
gets_excluded one s options map bytes lists o is gets (too_many_sections p other order new many) =
    let few : length p.sections ≤ most_sections = (moved options map bytes lists o p is other gets).few in
    absurd (omega (arith, few, many))
gets_excluded one s options map bytes lists o is gets (too_many_symbols p other order new few many count) =
    let room : symbols_needed options (coded_by map p) ≤ MAX_SYMBOLS = (moved options map bytes lists o p is other gets).few_symbols in
    absurd (omega (arith, room, many))
gets_excluded one s options map bytes lists o is gets no_memory = refl
