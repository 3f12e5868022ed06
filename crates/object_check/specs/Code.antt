-- What is read of an object's code, and what the check of it comes to, whatever is then added to the object.
use Rattle.std.specs.Prelude.{◌≢◌, ◌≤◌, List, length, All, AllPairs}
use Rattle.ot_base.specs.declared.options.Options.{Options}
use Rattle.ot_base.specs.declared.row.PlacedRow.{PlacedRow}
use Rattle.ot_base.specs.NameLists.{NameLists}
use Rattle.elf_objects.specs.Elf.{Elf}
use Rattle.elf_objects.specs.declared.TheConstants.{MAX_FILE_BYTES}
use Rattle.flow_defs.specs.Coded.{Coded}
use Rattle.flow_defs.specs.Program.{program_of}
use Rattle.flow_defs.specs.declared.fault.FlowFault.{FlowFault}
use Rattle.flow_defs.specs.declared.fault.FlowFault.TheVariants as flow
use Rattle.flow_defs.specs.Faults.{IsFirstFlowFault}
use Rattle.object_points.specs.declared.fault.LinkFault.{LinkFault}
use Rattle.object_points.specs.declared.fault.LinkFault.TheVariants as link
use Rattle.object_points.specs.Linked.{IsLinked, IsLinkFault}
use Rattle.program_check.specs.AskedRules.{IsEnough}
use Rattle.object_check.specs.Allowances.{allowances_of}
use Rattle.table_defs.specs.Order.{ComesBefore}
use Rattle.eh_frame.specs.RowFrames.{IsFrameRow}
use Rattle.orc_output.specs.Tables.{IsRowIn}
use Rattle.object_check.specs.Counts.{IsCounted}
use Rattle.object_check.specs.Order.{IsInOrder}
use Rattle.object_check.specs.Outcome.{AreWarnings, HasRows, IsUnbroken}
use Rattle.object_check.specs.Ready.{IsGraphOf, IsTableOf}
use Rattle.object_check.specs.declared.code.ReadCode.{ReadCode}
use Rattle.object_check.specs.declared.fault.CodeFault.{CodeFault}
use Rattle.object_check.specs.declared.fault.CodeFault.TheVariants.{Link, Flow, NoMemory}
use Rattle.object_check.specs.declared.outcome.ObjectVerdict.{ObjectVerdict}
use Rattle.object_check.specs.declared.outcome.ObjectVerdict.TheVariants.{Accepted, Broken}

-- This is kept of the code of the object, which has the size of a file that is read and is in order: the graph of its program under
-- the lists of names, what is allowed there as far as the options ask for it, and how much code there is.
pub record IsCodeOf (o : Coded) (lists : NameLists) (options : Options) (code : ReadCode) : Type 0 where
  pub short : length o.elf.bytes ≤ MAX_FILE_BYTES
  pub graph : IsGraphOf o lists code.graph.parts
  pub enough : IsEnough options code.table
  pub allows : IsTableOf (program_of o lists) (allowances_of o lists options) code.table
  pub counted : IsCounted o code.counts

-- Why the object's code isn't read: the first that is wrong, in this order. Want of memory says nothing of the object.
pub data IsCodeFault (o : Coded) (lists : NameLists) : CodeFault → Type 0 where
  unlinked : (fault : LinkFault) → fault ≢ link.NoMemory → IsLinkFault o lists fault → IsCodeFault o lists (Link fault)
  unflowed : (fault : FlowFault) → fault ≢ flow.NoMemory → IsLinked o lists → IsFirstFlowFault o fault → IsCodeFault o lists (Flow fault)
  no_memory : IsCodeFault o lists NoMemory

-- The object is in order. Its program, under the lists of names, breaks no rule that is asked for, the rows are the program's, and the
-- object has so much code; or the program breaks some, and the warnings are exactly these.
abbrev pub IsFound : Coded → NameLists → Options → ObjectVerdict → Type 0
IsFound o lists options (Accepted rows counts) = IsInOrder o lists × IsUnbroken (program_of o lists) (allowances_of o lists options) options × HasRows (program_of o lists) rows.items × IsCounted o counts
IsFound o lists options (Broken warnings) = IsInOrder o lists × AreWarnings (program_of o lists) (allowances_of o lists options) options warnings.items

-- Rows that the object can have, as ORC tables and as call frame information: each lies in a text section in which a symbol is defined,
-- at an offset up to the section's size; they strictly ascend by their places; and there are at most so many as a file that is read
-- has places.
pub record CanHaveRows (o : Elf) (rows : List PlacedRow) : Type 0 where
  pub each : All (IsRowIn o) rows
  pub frames : All (λ placed. IsFrameRow placed.row) rows
  pub ascend : AllPairs (λ one other. ComesBefore one.place other.place) rows
  pub few : length rows ≤ 67108865
