-- What the command `cfi IN OUT` does, on whatever its files hold, and how it ends.
use Rattle.std.specs.Prelude.{◌≡◌, ℕ, ℤ, ◌<◌, List, Option, Ok, None, Some, length}
use Rattle.ot_base.specs.NameLists.{NameLists}
use Rattle.ot_base.specs.declared.place.Place.{Place}
use Rattle.ot_base.specs.declared.row.PlacedRow.{PlacedRow}
use Rattle.ot_base.specs.declared.warning.Warning.{Warning}
use Rattle.ot_files.specs.Content.{Content, ChangesAtMost, writing}
use Rattle.ot_files.specs.Output.{appending}
use Rattle.elf_objects.specs.declared.TheConstants.{MAX_FILE_BYTES, MAX_SYMBOLS}
use Rattle.elf_objects.specs.declared.fault.Counted.TheVariants.{Sections, Symbols}
use Rattle.elf_objects.specs.declared.fault.ElfFault.{ElfFault}
use Rattle.elf_objects.specs.Elf.{Elf}
use Rattle.elf_objects.specs.Object.{FirstFault, IsObject}
use Rattle.machine_defs.specs.Asked.{IsWarned}
use Rattle.x86_map.specs.declared.map.Map.{Map}
use Rattle.flow_defs.specs.Coded.{coded_by}
use Rattle.object_points.specs.declared.fault_text.LinkFaultText.{LinkFaultText}
use Rattle.object_check.specs.Code.{IsCodeFault}
use Rattle.object_check.specs.Order.{IsInOrder}
use Rattle.object_check.specs.Outcome.{AreWarnings, HasRows, IsUnbroken}
use Rattle.object_check.specs.declared.fault.CodeFault.TheVariants as fault
use Rattle.orc_output.specs.Tables.{symbols_needed}
use Rattle.eh_frame.specs.FrameOutput.{first_frame}
use Rattle.command_base.specs.Code.{IsWorded}
use Rattle.command_base.specs.Names.{StopsAtNames}
use Rattle.command_base.specs.Outside.{Outside, Output}
use Rattle.command_base.specs.Printing.{Concludes, Prints}
use Rattle.command_base.specs.Reading.{MayRead, StopsAtRead}
use Rattle.command_base.specs.Warnings.{warnings_text}
use Rattle.command_base.specs.Writing.{StopsAtWrite}
use Rattle.command_base.specs.declared.flow_text.FlowFaultText.{FlowFaultText}
use Rattle.command_base.specs.declared.refusal.Refusal.TheVariants.{HasFrames, Malformed, TooMany, Unflowed, Unlinked}
use Rattle.command_base.specs.declared.status.Status.{Status}
use Rattle.command_base.specs.declared.status.Status.TheVariants as status
use Rattle.command_base.specs.declared.stop.CommandStop.{CommandStop}
use Rattle.command_base.specs.declared.stop.CommandStop.TheVariants.{NoMemory, Refused}
use Rattle.objtool_cli.specs.FramesOrder.{GetsFrames, IsCheckable, allowances_under, default_rules, most_sections, program_under}
use Rattle.objtool_cli.specs.Undone.{RulesUndo}
use Rattle.objtool_cli.specs.Written.{TellsRows}
use Rattle.command_base.specs.Inputs.{IsRead}

-- ---- what the command makes of the bytes of IN

-- Why an object isn't checked under the lists of names, in this order: its code isn't read, or doesn't fit what the object says of it; it has a frame section
-- already, of which this is the first; it would have too many sections, and this is how many it has; or memory ran out.
pub data IsUnchecked (map : Map) (lists : NameLists) (o : Elf) : CommandStop → Type 0 where
  unlinked : {told : LinkFaultText} → IsCodeFault (coded_by map o) lists (fault.Link told.fault) → IsWorded o told → IsUnchecked map lists o (Refused (Unlinked told))
  unflowed : {told : FlowFaultText} → IsCodeFault (coded_by map o) lists (fault.Flow told.fault) → IsUnchecked map lists o (Refused (Unflowed told))
  has_frames : {sec : ℕ} → IsInOrder (coded_by map o) lists → first_frame o ≡ Some sec → IsUnchecked map lists o (Refused (HasFrames sec))
  too_many_sections :
      {count : ℕ}
      → IsInOrder (coded_by map o) lists
      → first_frame o ≡ None
      → most_sections < length o.sections
      → count ≡ length o.sections
      → IsUnchecked map lists o (Refused (TooMany Sections count))
  out_of_memory : IsUnchecked map lists o NoMemory

-- Why bytes get no call frame information, in this order: they are no object, and this is their first fault; or an object that isn't
-- checked; or one that breaks no rule, and would have too many symbols, and this is their number; or memory ran out.
pub data GetNoFrames (map : Map) (bytes : List ℕ) (lists : NameLists) : CommandStop → Type 0 where
  malformed : {fault : ElfFault} → FirstFault bytes fault → GetNoFrames map bytes lists (Refused (Malformed fault))
  unchecked : {stop : CommandStop} (o : Elf) → IsObject bytes o → IsUnchecked map lists o stop → GetNoFrames map bytes lists stop
  too_many_symbols :
      {count : ℕ} (o : Elf) (rows : List PlacedRow)
      → IsObject bytes o
      → IsCheckable (coded_by map o) lists
      → IsUnbroken (program_under map lists o) (allowances_under map lists o) default_rules
      → HasRows (program_under map lists o) rows
      → MAX_SYMBOLS < symbols_needed o rows
      → count ≡ symbols_needed o rows
      → GetNoFrames map bytes lists (Refused (TooMany Symbols count))
  no_memory : GetNoFrames map bytes lists NoMemory

-- They are an object that gets call frame information: that of these rows.
pub record Gets (map : Map) (bytes : List ℕ) (lists : NameLists) (o : Elf) (rows : List PlacedRow) : Type 0 where
  pub is : IsObject bytes o
  pub gets : GetsFrames map lists o rows

-- They are this object, which is checked, and whose program breaks rules: these are all warnings, in their order.
pub record HasWarnings (map : Map) (bytes : List ℕ) (lists : NameLists) (o : Elf) (warnings : List Warning) : Type 0 where
  pub is : IsObject bytes o
  pub checkable : IsCheckable (coded_by map o) lists
  pub are : AreWarnings (program_under map lists o) (allowances_under map lists o) default_rules warnings

-- they are an object that is checked, and whose program breaks a rule
pub record BreaksRule (map : Map) (bytes : List ℕ) (lists : NameLists) : Type 0 where
  pub object : Elf
  pub is : IsObject bytes object
  pub checkable : IsCheckable (coded_by map object) lists
  pub place : Place
  pub rule : ℕ
  pub a : ℤ
  pub b : ℤ
  pub broken : IsWarned (program_under map lists object) (allowances_under map lists object) default_rules place rule a b

-- ---- what it may have read

-- IN may read as the bytes of this object, which gets the call frame information of these rows; and these bytes are it with them, by
-- which the frames of its program's runs are undone.
pub record MayGetFrames (map : Map) (content : Option Content) (input : List ℕ) (names : Option (List ℕ)) (o : Elf) (rows : List PlacedRow) (written : List ℕ) : Type 0 where
  pub read : List ℕ
  pub lists : NameLists
  pub is_read : IsRead content input names read lists
  pub gets : Gets map read lists o rows
  pub tells : TellsRows o rows written
  pub undoes : RulesUndo (coded_by map o) lists rows

-- IN may read as the bytes of this object, which breaks rules: these are all warnings.
pub record MayBeWarned (map : Map) (content : Option Content) (input : List ℕ) (names : Option (List ℕ)) (o : Elf) (warnings : List Warning) : Type 0 where
  pub read : List ℕ
  pub lists : NameLists
  pub is_read : IsRead content input names read lists
  pub warns : HasWarnings map read lists o warnings

-- ---- how it ends

-- How `cfi` stops, and what stands then. Where IN or the names file isn't read, a line of the names file isn't in order, the bytes of
-- IN get no call frame information or memory runs out before OUT is written, no file has changed. Only where writing OUT didn't come
-- to its end is it open what OUT holds; every other name holds what it held.
pub data StopsCfi (map : Map) (input output : List ℕ) (names : Option (List ℕ)) (before after : Outside) : CommandStop → Type 0 where
  unread : {stop : CommandStop} → StopsAtRead MAX_FILE_BYTES input before after stop → after.content ≡ before.content → StopsCfi map input output names before after stop
  without_names :
      {stop : CommandStop} (read : List ℕ)
      → MayRead MAX_FILE_BYTES before.content input (Ok read)
      → StopsAtNames names before after stop
      → after.content ≡ before.content
      → StopsCfi map input output names before after stop
  refused :
      {stop : CommandStop} (read : List ℕ) (lists : NameLists)
      → IsRead before.content input names read lists
      → GetNoFrames map read lists stop
      → after.content ≡ before.content
      → StopsCfi map input output names before after stop
  unwritten :
      {stop : CommandStop} (o : Elf) (rows : List PlacedRow) (written : List ℕ)
      → MayGetFrames map before.content input names o rows written
      → StopsAtWrite output before after stop
      → ChangesAtMost output before.content after.content
      → StopsCfi map input output names before after stop

-- How `cfi` ends: OUT holds IN with the call frame information of its rows, every other name what it held, and nothing was printed; or
-- IN breaks rules, and the lines of all warnings were to be printed, and no file has changed; or it stops, and tells why.
pub data EndsCfi (map : Map) (input output : List ℕ) (names : Option (List ℕ)) (before after : Outside) (out out' : Output) : Status → Type 0 where
  done :
      (o : Elf) (rows : List PlacedRow) (written : List ℕ)
      → MayGetFrames map before.content input names o rows written
      → after.content ≡ writing before.content output written
      → out' ≡ out
      → EndsCfi map input output names before after out out' status.Done
  warned :
      {s : Status} (o : Elf) (warnings : List Warning)
      → MayBeWarned map before.content input names o warnings
      → after.content ≡ before.content
      → Prints status.Warnings (warnings_text o warnings) out out' s
      → EndsCfi map input output names before after out out' s
  stopped :
      {s : Status} (stop : CommandStop)
      → StopsCfi map input output names before after stop
      → Concludes stop out out' s
      → EndsCfi map input output names before after out out' s

-- IN may read as an object that breaks rules, and exactly the lines of all its warnings were printed.
pub record TellsWarnings (map : Map) (input : List ℕ) (names : Option (List ℕ)) (content : Option Content) (before after : Option (List ℕ)) : Type 0 where
  pub object : Elf
  pub warnings : List Warning
  pub may : MayBeWarned map content input names object warnings
  pub printed : after ≡ appending before (warnings_text object warnings)

-- Only OUT may have changed, and only where IN gets call frame information.
pub record CfiMayChange (map : Map) (input output : List ℕ) (names : Option (List ℕ)) (before after : Option Content) : Type 0 where
  pub object : Elf
  pub rows : List PlacedRow
  pub written : List ℕ
  pub may : MayGetFrames map before input names object rows written
  pub others : ChangesAtMost output before after
