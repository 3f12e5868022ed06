-- What the command `merge LAYOUT OUT` does, on whatever its files hold, and how it ends.
use Rattle.std.specs.Prelude.{◌≡◌, ℕ, ◌≤◌, List, length, Option, Some, None}
use Rattle.ot_files.specs.Content.{Content, ChangesAtMost, writing}
use Rattle.elf_objects.specs.declared.TheConstants.{MAX_FILE_BYTES}
use Rattle.table_defs.specs.Lookup.{AddressedRow}
use Rattle.orc_merge.specs.LayoutFile.{FileSaid}
use Rattle.orc_merge.specs.Merged.{IsMergeOf}
use Rattle.orc_merge.specs.MergeFaults.{merge_fault}
use Rattle.orc_merge.specs.declared.faults.MergeFault.{MergeFault}
use Rattle.orc_merge.specs.declared.part.Part.{Part}
use Rattle.command_base.specs.declared.refusal.Refusal.TheVariants.{Merge}
use Rattle.command_base.specs.declared.status.Status.{Status}
use Rattle.command_base.specs.declared.status.Status.TheVariants as status
use Rattle.command_base.specs.declared.stop.CommandStop.{CommandStop}
use Rattle.command_base.specs.declared.stop.CommandStop.TheVariants.{NoMemory, Refused}
use Rattle.command_base.specs.Outside.{Outside, Output}
use Rattle.command_base.specs.Printing.{Concludes}
use Rattle.command_base.specs.Writing.{StopsAtWrite}
use Rattle.command_base.specs.Alike.{FindAlike, HoldsTable, WalkAlike}
use Rattle.command_base.specs.Layouts.{IsLayoutOf, StopsAtLayout}
use Rattle.command_base.specs.MergedObjects.{ArePartsOf, StopsAtParts}

-- Nothing hinders that the rows of these objects are merged, and these bytes are the table of their merged rows, in at most so many
-- bytes as `find` reads.
pub record IsTableOf (parts : List Part) (table : List ℕ) : Type 0 where
  pub fits : merge_fault parts ≡ None
  pub rows : List AddressedRow
  pub merged : IsMergeOf parts rows
  pub holds : HoldsTable table rows
  pub short : length table ≤ MAX_FILE_BYTES

-- why there is no such table: this hinders it, or memory ran out
pub data HasNoTable (parts : List Part) : CommandStop → Type 0 where
  unmerged : {fault : MergeFault} → merge_fault parts ≡ Some fault → HasNoTable parts (Refused (Merge fault))
  no_memory : HasNoTable parts NoMemory

-- these files are objects, and OUT holds the table of their merged rows, and every other name what it held
pub record WritesMerged (said : List FileSaid) (output : List ℕ) (before after : Option Content) : Type 0 where
  pub parts : List Part
  pub are : ArePartsOf before said parts
  pub table : List ℕ
  pub is : IsTableOf parts table
  pub written : after ≡ writing before output table

-- `merge` is done: LAYOUT names files that are objects, OUT holds the table of their merged rows, and every other name what it held; and
-- look-ups and walks by this table tell what they tell by the rows of each object.
pub record IsMerged (layout output : List ℕ) (before after : Option Content) : Type 0 where
  pub said : List FileSaid
  pub is_layout : IsLayoutOf before layout said
  pub writes : WritesMerged said output before after
  pub found : FindAlike writes.table writes.parts
  pub walked : WalkAlike writes.table writes.parts

-- LAYOUT may name files that are objects, and nothing hinders that their rows are merged
pub record MayBeMerged (layout : List ℕ) (content : Option Content) : Type 0 where
  pub said : List FileSaid
  pub is_layout : IsLayoutOf content layout said
  pub parts : List Part
  pub are : ArePartsOf content said parts
  pub fits : merge_fault parts ≡ None

-- How `merge` stops behind LAYOUT, which names these files, and what stands then: a file isn't an object, the rows can't be merged, or
-- memory ran out, and no file has changed; or writing OUT didn't come to its end, and no other name has changed.
pub data StopsBehindLayout (said : List FileSaid) (output : List ℕ) (before after : Outside) : CommandStop → Type 0 where
  without_part : {stop : CommandStop} → StopsAtParts said before after stop → after.content ≡ before.content → StopsBehindLayout said output before after stop
  without_table :
      {stop : CommandStop} (parts : List Part)
      → ArePartsOf before.content said parts
      → HasNoTable parts stop
      → after.content ≡ before.content
      → StopsBehindLayout said output before after stop
  unwritten :
      {stop : CommandStop} (parts : List Part) (table : List ℕ)
      → ArePartsOf before.content said parts
      → IsTableOf parts table
      → StopsAtWrite output before after stop
      → ChangesAtMost output before.content after.content
      → StopsBehindLayout said output before after stop

-- How `merge` stops, and what stands then: LAYOUT gives no files, and no file has changed; or it stops behind LAYOUT.
pub data StopsMerge (layout output : List ℕ) (before after : Outside) : CommandStop → Type 0 where
  at_layout : {stop : CommandStop} → StopsAtLayout layout before after stop → after.content ≡ before.content → StopsMerge layout output before after stop
  behind_layout :
      {stop : CommandStop} (said : List FileSaid)
      → IsLayoutOf before.content layout said
      → StopsBehindLayout said output before after stop
      → StopsMerge layout output before after stop

-- How `merge` ends: it is done, and has printed nothing; or it stops, and tells why.
pub data EndsMerge (layout output : List ℕ) (before after : Outside) (out out' : Output) : Status → Type 0 where
  done : IsMerged layout output before.content after.content → out' ≡ out → EndsMerge layout output before after out out' status.Done
  stopped : {s : Status} (stop : CommandStop) → StopsMerge layout output before after stop → Concludes stop out out' s → EndsMerge layout output before after out out' s
