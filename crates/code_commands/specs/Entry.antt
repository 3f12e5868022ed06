-- What the command `entry IN` does, on whatever its files hold, and how it ends.
use Rattle.std.specs.Prelude.{◌≡◌, ◌≢◌, ⊤, ℕ, ℤ, List, [], Option, Some, None, Ok}
use Rattle.std.specs.FinMap.{get}
use Rattle.ot_base.specs.NameLists.{NameLists}
use Rattle.ot_base.specs.declared.place.Place.{Place}
use Rattle.ot_base.specs.declared.warning.Warning.{Warning}
use Rattle.ot_files.specs.Content.{Content}
use Rattle.ot_files.specs.Output.{appending}
use Rattle.elf_objects.specs.declared.TheConstants.{MAX_FILE_BYTES}
use Rattle.elf_objects.specs.declared.fault.ElfFault.{ElfFault}
use Rattle.elf_objects.specs.Elf.{Elf}
use Rattle.elf_objects.specs.Object.{FirstFault, IsObject}
use Rattle.x86_map.specs.declared.map.Map.{Map}
use Rattle.flow_defs.specs.Coded.{Coded, coded_by}
use Rattle.flow_defs.specs.Faults.{IsFirstFlowFault}
use Rattle.flow_defs.specs.Program.{program_of}
use Rattle.flow_defs.specs.declared.fault.FlowFault.TheVariants as flow
use Rattle.object_points.specs.Linked.{IsLinked, IsLinkFault}
use Rattle.object_points.specs.declared.fault.LinkFault.TheVariants as link
use Rattle.object_points.specs.declared.fault_text.LinkFaultText.{LinkFaultText}
use Rattle.entry_rules.specs.EntryWarns.{EntryWarns, IsClean}
use Rattle.entry_rules.specs.Law.{KeepsRules}
use Rattle.entry_rules.specs.ObjectFacts.{facts_of}
use Rattle.entry_rules.specs.Verdict.{AreWarnings}
use Rattle.entry_rules.specs.declared.options.EntryOptions.{EntryOptions}
use Rattle.command_base.specs.Code.{IsInOrder, IsWorded}
use Rattle.command_base.specs.Names.{HasNames, StopsAtNames}
use Rattle.command_base.specs.Outside.{Outside, Output}
use Rattle.command_base.specs.Printing.{Concludes, Prints}
use Rattle.command_base.specs.Reading.{MayRead, StopsAtRead}
use Rattle.command_base.specs.Warnings.{warnings_text}
use Rattle.command_base.specs.declared.flow_text.FlowFaultText.{FlowFaultText}
use Rattle.command_base.specs.declared.refusal.Refusal.TheVariants.{Malformed, Unflowed, Unlinked}
use Rattle.command_base.specs.declared.status.Status.{Status}
use Rattle.command_base.specs.declared.status.Status.TheVariants as status
use Rattle.command_base.specs.declared.stop.CommandStop.{CommandStop}
use Rattle.command_base.specs.declared.stop.CommandStop.TheVariants.{NoMemory, Refused}
use Rattle.command_base.specs.Inputs.{IsRead}

-- ---- what the rules say of an object

-- these are the warnings of the rules that are asked for, each once, in their order
abbrev pub AreEntryWarnings : Coded → NameLists → EntryOptions → List Warning → Type 0
AreEntryWarnings o lists options warnings = AreWarnings (program_of o lists) (facts_of o) options warnings

-- no rule that is asked for is broken
abbrev pub IsUnbroken : Coded → NameLists → EntryOptions → Type 0
IsUnbroken o lists options = IsClean (program_of o lists) (facts_of o) options

-- one is
pub record BreaksEntryRule (o : Coded) (lists : NameLists) (options : EntryOptions) : Type 0 where
  pub place : Place
  pub rule : ℕ
  pub a : ℤ
  pub b : ℤ
  pub broken : EntryWarns (program_of o lists) (facts_of o) options place rule a b

-- what is asked for is kept by every run of the object's program, wherever it is placed
abbrev pub KeepsEntryRules : Coded → NameLists → EntryOptions → Type 0
KeepsEntryRules o lists options = KeepsRules (program_of o lists) (facts_of o) options

-- ---- what stops the command

-- Why bytes aren't checked under the lists of names, in this order: they are no object, and this is their first fault; or an object whose code isn't read, or
-- doesn't fit what the object says of it; or memory ran out.
pub data IsUncheckable (map : Map) (bytes : List ℕ) (lists : NameLists) : CommandStop → Type 0 where
  malformed : {fault : ElfFault} → FirstFault bytes fault → IsUncheckable map bytes lists (Refused (Malformed fault))
  unlinked :
      {told : LinkFaultText} (o : Elf)
      → IsObject bytes o
      → told.fault ≢ link.NoMemory
      → IsLinkFault (coded_by map o) lists told.fault
      → IsWorded o told
      → IsUncheckable map bytes lists (Refused (Unlinked told))
  unflowed :
      {told : FlowFaultText} (o : Elf)
      → IsObject bytes o
      → told.fault ≢ flow.NoMemory
      → IsLinked (coded_by map o) lists
      → IsFirstFlowFault (coded_by map o) told.fault
      → IsUncheckable map bytes lists (Refused (Unflowed told))
  no_memory : IsUncheckable map bytes lists NoMemory

-- IN may read as the bytes of this object, which is in order, under these lists of names.
pub record MayBeChecked (map : Map) (content : Option Content) (input : List ℕ) (names : Option (List ℕ)) (o : Elf) (lists : NameLists) : Type 0 where
  pub read : List ℕ
  pub is_read : IsRead content input names read lists
  pub is : IsObject read o
  pub in_order : IsInOrder (coded_by map o) lists

-- How `entry` stops: IN or the names file isn't read, a line of the names file isn't in order, the bytes of IN aren't checked, or memory
-- runs out.
pub data StopsEntry (map : Map) (input : List ℕ) (names : Option (List ℕ)) (before after : Outside) : CommandStop → Type 0 where
  unread : {stop : CommandStop} → StopsAtRead MAX_FILE_BYTES input before after stop → StopsEntry map input names before after stop
  without_names :
      {stop : CommandStop} (read : List ℕ)
      → MayRead MAX_FILE_BYTES before.content input (Ok read)
      → StopsAtNames names before after stop
      → StopsEntry map input names before after stop
  refused :
      {stop : CommandStop} (read : List ℕ) (lists : NameLists)
      → IsRead before.content input names read lists
      → IsUncheckable map read lists stop
      → StopsEntry map input names before after stop

-- ---- how it ends

-- How `entry` ends: IN breaks no rule that is asked for, every run keeps what is asked for, and nothing was printed; or IN breaks rules,
-- and it prints the lines of all warnings; or it stops, and tells why.
pub data EndsEntry (map : Map) (options : EntryOptions) (input : List ℕ) (names : Option (List ℕ)) (before after : Outside) (out out' : Output) : Status → Type 0 where
  done :
      (o : Elf) (lists : NameLists)
      → MayBeChecked map before.content input names o lists
      → IsUnbroken (coded_by map o) lists options
      → KeepsEntryRules (coded_by map o) lists options
      → out' ≡ out
      → EndsEntry map options input names before after out out' status.Done
  warned :
      {s : Status} (o : Elf) (lists : NameLists) (warnings : List Warning)
      → MayBeChecked map before.content input names o lists
      → AreEntryWarnings (coded_by map o) lists options warnings
      → warnings ≢ []
      → Prints status.Warnings (warnings_text o warnings) out out' s
      → EndsEntry map options input names before after out out' s
  stopped :
      {s : Status} (stop : CommandStop)
      → StopsEntry map input names before after stop
      → Concludes stop out out' s
      → EndsEntry map options input names before after out out' s

-- The object whose bytes IN holds keeps what the options ask for, under the lists of names of the names file, or the built-in ones
-- where none is given.
pub record HoldsEntryRules (map : Map) (options : EntryOptions) (input : List ℕ) (names : Option (List ℕ)) (content : Content) : Type 0 where
  pub read : List ℕ
  pub held : get content input ≡ Some read
  pub lists : NameLists
  pub named : HasNames (Some content) names lists
  pub object : Elf
  pub is_object : IsObject read object
  pub keeps : KeepsEntryRules (coded_by map object) lists options

-- the same where the files tell their content
abbrev pub InKeepsEntryRules : Map → EntryOptions → List ℕ → Option (List ℕ) → Option Content → Type 0
InKeepsEntryRules map options input names (Some content) = HoldsEntryRules map options input names content
InKeepsEntryRules map options input names None = ⊤

-- IN may read as the bytes of an object that breaks rules that are asked for, and exactly the lines of its warnings were printed.
pub record PrintsEntryWarnings (map : Map) (options : EntryOptions) (input : List ℕ) (names : Option (List ℕ)) (content : Option Content) (before after : Option (List ℕ)) : Type 0 where
  pub object : Elf
  pub lists : NameLists
  pub warnings : List Warning
  pub may : MayBeChecked map content input names object lists
  pub are : AreEntryWarnings (coded_by map object) lists options warnings
  pub some : warnings ≢ []
  pub printed : after ≡ appending before (warnings_text object warnings)
