-- Whose code is in order, and why a command stops whose input's code isn't read, or doesn't fit what the object says of it.
use Rattle.std.specs.Prelude.{◌≡◌, ◌≢◌, ℕ, []}
use Rattle.ot_base.specs.NameLists.{NameLists}
use Rattle.elf_objects.specs.Contents.{section_at}
use Rattle.elf_objects.specs.Elf.{Elf}
use Rattle.flow_defs.specs.Coded.{Coded}
use Rattle.flow_defs.specs.Faults.{flow_faults}
use Rattle.flow_defs.specs.declared.fault.FlowFault.{FlowFault}
use Rattle.flow_defs.specs.declared.fault.FlowFault.TheVariants as flow
use Rattle.x86_text.specs.declared.fault.TextFault.{TextFault}
use Rattle.object_points.specs.Linked.{IsLinked}
use Rattle.object_points.specs.declared.fault.LinkFault.{LinkFault}
use Rattle.object_points.specs.declared.fault.LinkFault.TheVariants as link
use Rattle.object_points.specs.declared.fault_text.LinkFaultText.{LinkFaultText}
use Rattle.command_base.specs.declared.refusal.Refusal.TheVariants.{Unlinked, Unflowed}
use Rattle.command_base.specs.declared.stop.CommandStop.{CommandStop}
use Rattle.command_base.specs.declared.stop.CommandStop.TheVariants.{Refused, NoMemory}

-- The object's code is read, and what it says of it fits the code, under the lists of names: texts, special sections, functions, alternatives, starts of
-- functions, lists of places, static branches, calls within functions and unchecked functions are in order.
pub record IsInOrder (o : Coded) (lists : NameLists) : Type 0 where
  pub linked : IsLinked o lists
  pub flow : flow_faults o ≡ []

-- where a text section isn't code, it is told by its name and its body
pub record NamesText (o : Elf) (told : LinkFaultText) (sec : ℕ) : Type 0 where
  pub section : told.section.now ≡ (section_at o sec).name
  pub body : told.body.now ≡ (section_at o sec).body

abbrev pub IsWorded : Elf → LinkFaultText → Type 0
IsWorded o told = (sec : ℕ) (why : TextFault) → told.fault ≡ link.Text sec why → NamesText o told sec

-- The stop tells why the object's code isn't read: this fault, in words; or want of memory, where that is the fault.
abbrev pub IsLinkStop : Elf → LinkFault → CommandStop → Type 0
IsLinkStop o fault (Refused (Unlinked told)) = (fault ≢ link.NoMemory) × ((told.fault ≡ fault) × IsWorded o told)
IsLinkStop o fault NoMemory = fault ≡ link.NoMemory
IsLinkStop o fault _ = ⊥

-- why a command stops whose object's program can't be checked
abbrev pub flow_stop : FlowFault → CommandStop
flow_stop flow.NoMemory = NoMemory
flow_stop fault = Refused (Unflowed (record { fault = fault }))
