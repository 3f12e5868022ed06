-- What the command `sites IN OUT` does, on whatever its files hold, and how it ends.
use Rattle.std.specs.Prelude.{◌≡◌, ◌≢◌, ⊤, ℕ, ◌<◌, ◌≤◌, List, Option, Some, None, Ok, length}
use Rattle.std.specs.FinMap.{get}
use Rattle.ot_base.specs.NameLists.{NameLists}
use Rattle.ot_files.specs.Content.{Content, ChangesAtMost, writing}
use Rattle.elf_objects.specs.declared.TheConstants.{MAX_FILE_BYTES, MAX_SYMBOLS}
use Rattle.elf_objects.specs.declared.fault.Counted.TheVariants.{Sections, Symbols}
use Rattle.elf_objects.specs.declared.fault.ElfFault.{ElfFault}
use Rattle.elf_objects.specs.Elf.{Elf}
use Rattle.elf_objects.specs.Object.{FirstFault, IsObject}
use Rattle.elf_write.specs.AddedSymbols.{IsAdded}
use Rattle.x86_map.specs.declared.map.Map.{Map}
use Rattle.flow_defs.specs.Coded.{Coded, coded_by}
use Rattle.flow_defs.specs.Faults.{IsFirstFlowFault}
use Rattle.flow_defs.specs.declared.fault.FlowFault.TheVariants as flow
use Rattle.object_points.specs.Linked.{IsLinked, IsLinkFault}
use Rattle.object_points.specs.declared.fault.LinkFault.TheVariants as link
use Rattle.object_points.specs.declared.fault_text.LinkFaultText.{LinkFaultText}
use Rattle.site_lists.specs.declared.options.ListOptions.{ListOptions}
use Rattle.site_lists.specs.Listed.{Listed}
use Rattle.site_lists.specs.Sections.{HoldsSites}
use Rattle.site_lists.specs.Sites.{sites_of}
use Rattle.site_lists.specs.Needed.{needed_symbols}
use Rattle.site_lists.specs.SiteOutput.{site_section, site_sections}
use Rattle.site_lists.specs.Tables.{with_sites_object, with_symbols}
use Rattle.command_base.specs.Code.{IsWorded}
use Rattle.command_base.specs.Inputs.{IsRead}
use Rattle.command_base.specs.Names.{StopsAtNames}
use Rattle.command_base.specs.Outside.{Outside, Output}
use Rattle.command_base.specs.Printing.{Concludes}
use Rattle.command_base.specs.Reading.{MayRead, StopsAtRead}
use Rattle.command_base.specs.Writing.{StopsAtWrite}
use Rattle.command_base.specs.declared.flow_text.FlowFaultText.{FlowFaultText}
use Rattle.command_base.specs.declared.refusal.Refusal.TheVariants.{HasSites, Malformed, TooMany, Unflowed, Unlinked}
use Rattle.command_base.specs.declared.status.Status.{Status}
use Rattle.command_base.specs.declared.status.Status.TheVariants as status
use Rattle.command_base.specs.declared.stop.CommandStop.{CommandStop}
use Rattle.command_base.specs.declared.stop.CommandStop.TheVariants.{NoMemory, Refused}
use Rattle.command_base.specs.Code.{IsInOrder}
use Rattle.code_commands.specs.SitesOrder.{GetsSites, most_sections, symbols_needed}

-- ---- what OUT is to hold

-- The bytes that are written for an object are this object with exactly the section symbols inserted that the lists
-- of its sites need, and then the six sections of these lists added; and its site lists are exactly the object's
-- sites.
pub record ListsSites (options : ListOptions) (o : Coded) (written : List ℕ) : Type 0 where
  pub added : IsAdded o.elf (needed_symbols o.elf (sites_of options o)) (site_sections (with_symbols o.elf (sites_of options o)) (sites_of options o)) written
  pub reads_back : IsObject written (with_sites_object o.elf (sites_of options o))
  pub holds : HoldsSites (with_sites_object o.elf (sites_of options o)) (sites_of options o)
  pub only : (others : Listed) → HoldsSites (with_sites_object o.elf (sites_of options o)) others → others ≡ sites_of options o

-- The bytes that OUT holds after the command list the sites of the object whose bytes IN held before it.
pub record LeavesSites (options : ListOptions) (map : Map) (input output : List ℕ) (before after : Content) : Type 0 where
  pub read : List ℕ
  pub held : get before input ≡ Some read
  pub object : Elf
  pub is_object : IsObject read object
  pub written : List ℕ
  pub left : get after output ≡ Some written
  pub lists : ListsSites options (coded_by map object) written

-- the same where the files tell their content
abbrev pub OutListsSites : ListOptions → Map → List ℕ → List ℕ → Option Content → Option Content → Type 0
OutListsSites options map input output (Some before) (Some after) = LeavesSites options map input output before after
OutListsSites options map input output (Some before) None = ⊥
OutListsSites options map input output None after = ⊤

-- ---- what stops the command

-- Why bytes get no site lists under the lists of names, in this order: they are no object, and this is their first fault; or an
-- object whose code isn't read, or doesn't fit what the object says of it; which has a site list already, of which this is the
-- first section; or which would have too many sections, or too many symbols, and this is their number; or memory ran
-- out.
pub data GetNoSites (options : ListOptions) (map : Map) (bytes : List ℕ) (lists : NameLists) : CommandStop → Type 0 where
  malformed : {fault : ElfFault} → FirstFault bytes fault → GetNoSites options map bytes lists (Refused (Malformed fault))
  unlinked :
      {told : LinkFaultText} (o : Elf)
      → IsObject bytes o
      → told.fault ≢ link.NoMemory
      → IsLinkFault (coded_by map o) lists told.fault
      → IsWorded o told
      → GetNoSites options map bytes lists (Refused (Unlinked told))
  unflowed :
      {told : FlowFaultText} (o : Elf)
      → IsObject bytes o
      → told.fault ≢ flow.NoMemory
      → IsLinked (coded_by map o) lists
      → IsFirstFlowFault (coded_by map o) told.fault
      → GetNoSites options map bytes lists (Refused (Unflowed told))
  has_sites : {sec : ℕ} (o : Elf) → IsObject bytes o → IsInOrder (coded_by map o) lists → site_section o ≡ Some sec → GetNoSites options map bytes lists (Refused (HasSites sec))
  too_many_sections :
      (o : Elf)
      → IsObject bytes o
      → IsInOrder (coded_by map o) lists
      → site_section o ≡ None
      → most_sections < length o.sections
      → GetNoSites options map bytes lists (Refused (TooMany Sections (length o.sections)))
  too_many_symbols :
      {count : ℕ} (o : Elf)
      → IsObject bytes o
      → IsInOrder (coded_by map o) lists
      → site_section o ≡ None
      → length o.sections ≤ most_sections
      → MAX_SYMBOLS < symbols_needed options (coded_by map o)
      → count ≡ symbols_needed options (coded_by map o)
      → GetNoSites options map bytes lists (Refused (TooMany Symbols count))
  no_memory : GetNoSites options map bytes lists NoMemory

-- IN may read as the bytes of this object, which gets site lists under the lists of names that are read; and these bytes are it with
-- them.
pub record MayGetSites (options : ListOptions) (map : Map) (content : Option Content) (input : List ℕ) (names : Option (List ℕ)) (o : Elf) (written : List ℕ) : Type 0 where
  pub read : List ℕ
  pub under : NameLists
  pub is_read : IsRead content input names read under
  pub is : IsObject read o
  pub gets : GetsSites options (coded_by map o) under
  pub lists : ListsSites options (coded_by map o) written

-- How `sites` stops, and what stands then. Where IN or the names file isn't read, a line of the names file isn't in
-- order, the bytes of IN get no site lists or memory runs out before OUT is written, no file has changed. Only where
-- writing OUT didn't come to its end is it open what OUT holds; every other name holds what it held.
pub data StopsSites (options : ListOptions) (map : Map) (input output : List ℕ) (names : Option (List ℕ)) (before after : Outside) : CommandStop → Type 0 where
  unread : {stop : CommandStop} → StopsAtRead MAX_FILE_BYTES input before after stop → after.content ≡ before.content → StopsSites options map input output names before after stop
  without_names :
      {stop : CommandStop} (read : List ℕ)
      → MayRead MAX_FILE_BYTES before.content input (Ok read)
      → StopsAtNames names before after stop
      → after.content ≡ before.content
      → StopsSites options map input output names before after stop
  refused :
      {stop : CommandStop} (read : List ℕ) (lists : NameLists)
      → IsRead before.content input names read lists
      → GetNoSites options map read lists stop
      → after.content ≡ before.content
      → StopsSites options map input output names before after stop
  unwritten :
      {stop : CommandStop} (o : Elf) (written : List ℕ)
      → MayGetSites options map before.content input names o written
      → StopsAtWrite output before after stop
      → ChangesAtMost output before.content after.content
      → StopsSites options map input output names before after stop

-- ---- how it ends

-- How `sites` ends: OUT holds IN with the lists of its sites, every other name what it held, and nothing was printed;
-- or it stops, and tells why.
pub data EndsSites (options : ListOptions) (map : Map) (input output : List ℕ) (names : Option (List ℕ)) (before after : Outside) (out out' : Output) : Status → Type 0 where
  done :
      (o : Elf) (written : List ℕ)
      → MayGetSites options map before.content input names o written
      → after.content ≡ writing before.content output written
      → out' ≡ out
      → EndsSites options map input output names before after out out' status.Done
  stopped :
      {s : Status} (stop : CommandStop)
      → StopsSites options map input output names before after stop
      → Concludes stop out out' s
      → EndsSites options map input output names before after out out' s

-- Only OUT may have changed, and only where IN gets site lists.
pub record SitesMayChange (options : ListOptions) (map : Map) (input output : List ℕ) (names : Option (List ℕ)) (before after : Option Content) : Type 0 where
  pub object : Elf
  pub written : List ℕ
  pub may : MayGetSites options map before input names object written
  pub others : ChangesAtMost output before after
