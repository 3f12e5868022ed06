-- What keeps an object from getting call frame information, and that nothing does where it gets it.
use Rattle.std.proofs.Common.{◌≡◌, ℕ, ◌≤◌, ◌<◌, List, length, refl, sym, arith, subst}
use Rattle.ot_base.specs.NameLists.{NameLists}
use Rattle.ot_base.specs.declared.row.PlacedRow.{PlacedRow}
use Rattle.ot_base.specs.declared.warning.Warning.{Warning}
use Rattle.elf_objects.specs.Elf.{Elf}
use Rattle.elf_objects.specs.Object.{FirstFault, IsObject, Refuses}
use Rattle.elf_objects.specs.declared.TheConstants.{MAX_SYMBOLS}
use Rattle.elf_objects.specs.declared.fault.ElfFault.{ElfFault}
use Rattle.elf_objects.proofs.FirstFault.{FirstFault-not}
use Rattle.x86_map.specs.declared.map.Map.{Map}
use Rattle.flow_defs.specs.Coded.{Coded, coded_by}
use Rattle.x86_decode.specs.Decoding.{OneOutcome}
use Rattle.flow_defs.specs.declared.fault.FlowFault.{FlowFault}
use Rattle.object_points.specs.Linked.{IsLinkFault}
use Rattle.object_points.specs.declared.fault.LinkFault.{LinkFault}
use Rattle.object_check.specs.Code.{IsCodeFault}
use Rattle.object_check.specs.Code as checked
use Rattle.object_check.specs.Order.{IsInOrder}
use Rattle.object_check.specs.Outcome.{HasRows, IsUnbroken}
use Rattle.object_check.specs.declared.fault.CodeFault.{CodeFault}
use Rattle.object_check.specs.declared.fault.CodeFault.TheVariants as code
use Rattle.orc_output.specs.Tables.{symbols_needed}
use Rattle.eh_frame.specs.FrameOutput.{first_frame}
use Rattle.command_base.specs.Code.{IsLinkStop, flow_stop}
use Rattle.command_base.specs.Reading.{parse_stop}
use Rattle.command_base.specs.declared.stop.CommandStop.{CommandStop}
use Rattle.command_base.specs.declared.stop.CommandStop.TheVariants as stop
use Rattle.command_base.proofs.DumpLaws.{one_object}
use Rattle.command_base.proofs.FaultStops.{of_flow, of_link, of_parse}
use Rattle.objtool_cli.specs.Cfi.{BreaksRule, GetNoFrames, Gets, HasWarnings, IsUnchecked, has_frames, malformed, no_memory, out_of_memory, too_many_sections, too_many_symbols, unchecked, unflowed, unlinked}
use Rattle.objtool_cli.specs.FramesOrder.{IsCheckable, allowances_under, default_rules, most_sections, program_under}
use Rattle.objtool_cli.proofs.CheckableLemmas.{one_rows, some_contained}
use Rattle.code_commands.proofs.NoFault.{none_and_some, not_unflowed, not_unlinked}

-- ---- from the faults of those who read an object

pub no_object : (map : Map) (bytes : List ℕ) (lists : NameLists) (e : ElfFault) → Refuses (FirstFault bytes) e → GetNoFrames map bytes lists (parse_stop e)
no_object map bytes lists e h = of_parse (GetNoFrames map bytes lists) bytes e (λ first fault. malformed fault) no_memory h

-- the fault of those who read texts, sections, functions and alternatives
pub link_fault_of : (o : Coded) (lists : NameLists) (fault : LinkFault) → IsCodeFault o lists (code.Link fault) → IsLinkFault o lists fault
link_fault_of o lists fault h = of (code.Link fault) refl h
  where
    of : (f : CodeFault) → f ≡ code.Link fault → IsCodeFault o lists f → IsLinkFault o lists fault
    of f e (checked.unlinked other some why) = let same : other ≡ fault = cc in subst (IsLinkFault o lists) same why
    of f e (checked.unflowed other some linked why) = let z : ⊥ = cc in absurd z
    of f e checked.no_memory = let z : ⊥ = cc in absurd z

pub no_link : (s : CommandStop) (map : Map) (lists : NameLists) (o : Elf) (fault : LinkFault) → IsCodeFault (coded_by map o) lists (code.Link fault) → IsLinkStop o fault s → IsUnchecked map lists o s
no_link s map lists o fault is h =
    of_link (IsUnchecked map lists o) o fault s (λ told some same worded. unlinked (subst (λ (f : LinkFault). IsCodeFault (coded_by map o) lists (code.Link f)) (sym same) is) worded) out_of_memory h

pub no_flow : (map : Map) (lists : NameLists) (o : Elf) (fault : FlowFault) → IsCodeFault (coded_by map o) lists (code.Flow fault) → IsUnchecked map lists o (flow_stop fault)
no_flow map lists o fault h = of_flow (IsUnchecked map lists o) fault (λ some. unflowed h) out_of_memory

-- ---- where an object gets them

-- an object in order has no fault but want of memory
no_code_fault : OneOutcome → (o : Coded) (lists : NameLists) (fault : CodeFault) → IsInOrder o lists → IsCodeFault o lists fault → fault ≡ code.NoMemory
no_code_fault one o lists fault order (checked.unlinked why other h) = absurd (not_unlinked one o lists why other order.linked h)
no_code_fault one o lists fault order (checked.unflowed why other linked h) = absurd (not_unflowed o why other order.flow h)
no_code_fault one o lists fault order checked.no_memory = refl

-- one that is checked is stopped by want of memory alone
pub checked_excluded : OneOutcome → (s : CommandStop) (map : Map) (lists : NameLists) (o : Elf) → IsCheckable (coded_by map o) lists → IsUnchecked map lists o s → s ≡ stop.NoMemory
checked_excluded one s map lists o can (unlinked {told = told} why worded) = let same = no_code_fault one (coded_by map o) lists (code.Link told.fault) can.in_order why in cc
checked_excluded one s map lists o can (unflowed {told = told} why) = let same = no_code_fault one (coded_by map o) lists (code.Flow told.fault) can.in_order why in cc
checked_excluded one s map lists o can (has_frames {sec = sec} order at) = absurd (none_and_some (first_frame o) sec can.new at)
checked_excluded one s map lists o can (too_many_sections order new many count) =
    let few : length o.sections ≤ most_sections = can.few in
    absurd (omega (arith, few, many))
checked_excluded one s map lists o can out_of_memory = refl

-- ---- bytes

-- only want of memory keeps bytes from call frame information that get it
pub gets_excluded : OneOutcome → (s : CommandStop) (map : Map) (bytes : List ℕ) (lists : NameLists) (o : Elf) (rows : List PlacedRow) → Gets map bytes lists o rows → GetNoFrames map bytes lists s → s ≡ stop.NoMemory
gets_excluded one s map bytes lists o rows g (malformed fault) = absurd (FirstFault-not bytes _ fault g.is.well_formed)
gets_excluded one s map bytes lists o rows g (unchecked p other why) =
    checked_excluded one s map lists p (subst (λ (x : Elf). IsCheckable (coded_by map x) lists) (one_object bytes o p g.is other) g.gets.checkable) why
gets_excluded one s map bytes lists o rows g (too_many_symbols p others other can unbroken has many count) =
    let same = one_object bytes p o other g.is in
    let rows_are = one_rows (program_under map lists o) others rows (subst (λ (x : Elf). HasRows (program_under map lists x) others) same has) g.gets.has_rows in
    let needed : MAX_SYMBOLS < symbols_needed o rows = subst (λ (rs : List PlacedRow). MAX_SYMBOLS < symbols_needed o rs) rows_are (subst (λ (x : Elf). MAX_SYMBOLS < symbols_needed x others) same many) in
    let few : symbols_needed o rows ≤ MAX_SYMBOLS = g.gets.few_symbols in
    absurd (omega (arith, needed, few))
gets_excluded one s map bytes lists o rows g no_memory = refl

-- what breaks a rule isn't unbroken
pub breaks_unbroken : (map : Map) (bytes : List ℕ) (lists : NameLists) (o : Elf) → BreaksRule map bytes lists → IsObject bytes o → IsUnbroken (program_under map lists o) (allowances_under map lists o) default_rules → ⊥
breaks_unbroken map bytes lists o breaks is unbroken =
    let same = one_object bytes o breaks.object is breaks.is in
    (subst (λ (x : Elf). IsUnbroken (program_under map lists x) (allowances_under map lists x) default_rules) same unbroken).clean breaks.place breaks.rule breaks.a breaks.b breaks.broken

pub broken_excluded : OneOutcome → (s : CommandStop) (map : Map) (bytes : List ℕ) (lists : NameLists) → BreaksRule map bytes lists → GetNoFrames map bytes lists s → s ≡ stop.NoMemory
broken_excluded one s map bytes lists breaks (malformed fault) = absurd (FirstFault-not bytes _ fault breaks.is.well_formed)
broken_excluded one s map bytes lists breaks (unchecked p other why) =
    checked_excluded one s map lists p (subst (λ (x : Elf). IsCheckable (coded_by map x) lists) (one_object bytes breaks.object p breaks.is other) breaks.checkable) why
broken_excluded one s map bytes lists breaks (too_many_symbols p others other can unbroken has many count) = absurd (breaks_unbroken map bytes lists p breaks other unbroken)
broken_excluded one s map bytes lists breaks no_memory = refl

-- where there are warnings a rule is broken
pub warns_breaks : (map : Map) (bytes : List ℕ) (lists : NameLists) (o : Elf) (warnings : List Warning) → HasWarnings map bytes lists o warnings → BreaksRule map bytes lists
warns_breaks map bytes lists o warnings warns =
    let first = some_contained warnings warns.are.some in
    record {
      object = o;
      is = warns.is;
      checkable = warns.checkable;
      place = first.0.place;
      rule = first.0.rule;
      a = first.0.a;
      b = first.0.b;
      broken = (warns.are.all first.0).0 first.1;
    }

-- what gets call frame information has no warnings
pub gets_unwarned : (map : Map) (bytes : List ℕ) (lists : NameLists) (o p : Elf) (rows : List PlacedRow) (warnings : List Warning) → Gets map bytes lists o rows → HasWarnings map bytes lists p warnings → ⊥
gets_unwarned map bytes lists o p rows warnings g warns = breaks_unbroken map bytes lists o (warns_breaks map bytes lists p warnings warns) g.is g.gets.unbroken
