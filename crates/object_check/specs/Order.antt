-- Which objects are checked, and why others aren't.
use Rattle.std.specs.Prelude.{◌≡◌, ◌≢◌, ℕ, ◌-◌, ◌<◌, ◌≤◌, ◌||◌, Bool, List, [], length, position, Option, Some, None, bytes_eq, codes}
use Rattle.ot_base.specs.NameLists.{NameLists}
use Rattle.elf_objects.specs.Elf.{Elf}
use Rattle.flow_defs.specs.Coded.{Coded}
use Rattle.elf_objects.specs.declared.TheConstants.{MAX_SECTIONS}
use Rattle.object_points.specs.declared.fault.LinkFault.{LinkFault}
use Rattle.object_points.specs.declared.fault.LinkFault.TheVariants as link
use Rattle.object_points.specs.Linked.{IsLinked, IsLinkFault}
use Rattle.flow_defs.specs.declared.fault.FlowFault.{FlowFault}
use Rattle.flow_defs.specs.declared.fault.FlowFault.TheVariants as flow
use Rattle.flow_defs.specs.Faults.{flow_faults, IsFirstFlowFault}
use Rattle.object_check.specs.declared.fault.CheckFault.{CheckFault}
use Rattle.object_check.specs.declared.fault.CheckFault.TheVariants.{Link, Flow, HasOrc, TooManySections, NoMemory}

-- The object's code is read, and its program can be checked, under the lists of names: texts, special sections, functions, alternatives, starts of
-- functions, lists of places, static branches, calls within functions and unchecked functions are in order.
pub record IsInOrder (o : Coded) (lists : NameLists) : Type 0 where
  pub linked : IsLinked o lists
  pub flow : flow_faults o ≡ []

-- the name is that of an ORC section
abbrev pub is_orc_name : List ℕ → Bool
is_orc_name name =
    bytes_eq name (codes ".orc_unwind") || (bytes_eq name (codes ".orc_unwind_ip") || bytes_eq name (codes ".rela.orc_unwind_ip"))

-- the first ORC section of the object
unfoldable pub orc_section : Elf → Option ℕ
orc_section o = position (λ s. is_orc_name s.name) o.sections

-- so many sections an object may have, so that those of the tables still find room
abbrev pub most_sections : ℕ
most_sections = MAX_SECTIONS - 3

-- The object is checked: it is in order, has no ORC sections yet, and room for them.
pub record IsCheckable (o : Coded) (lists : NameLists) : Type 0 where
  pub in_order : IsInOrder o lists
  pub new : orc_section o.elf ≡ None
  pub few : length o.elf.sections ≤ most_sections

-- Why the object isn't checked: the first that is wrong, in this order. Want of memory says nothing of the object.
pub data IsCheckFault (o : Coded) (lists : NameLists) : CheckFault → Type 0 where
  unlinked : (fault : LinkFault) → fault ≢ link.NoMemory → IsLinkFault o lists fault → IsCheckFault o lists (Link fault)
  unflowed : (fault : FlowFault) → fault ≢ flow.NoMemory → IsLinked o lists → IsFirstFlowFault o fault → IsCheckFault o lists (Flow fault)
  has_orc : (sec : ℕ) → IsInOrder o lists → orc_section o.elf ≡ Some sec → IsCheckFault o lists (HasOrc sec)
  crowded : IsInOrder o lists → orc_section o.elf ≡ None → most_sections < length o.elf.sections → IsCheckFault o lists (TooManySections (length o.elf.sections))
  no_memory : IsCheckFault o lists NoMemory
