-- Why `merge` and `find` are refused on files that hold this: what the first step finds that fails, in the order of the steps. Faults of
-- files and of the output, and want of memory, are no refusals.
use Rattle.std.specs.Prelude.{◌≡◌, ◌≢◌, ℕ, List, ◌∷◌, ◌++◌, length, Some, Ok}
use Rattle.ot_files.specs.Content.{Content, reading}
use Rattle.elf_objects.specs.declared.TheConstants.{MAX_FILE_BYTES}
use Rattle.orc_merge.specs.LayoutFile.{FileSaid}
use Rattle.orc_merge.specs.MergeFaults.{merge_fault}
use Rattle.orc_merge.specs.declared.faults.MergeFault.{MergeFault}
use Rattle.orc_merge.specs.declared.part.Part.{Part}
use Rattle.command_base.specs.declared.refusal.Refusal.TheVariants.{Merge}
use Rattle.command_base.specs.declared.stop.CommandStop.{CommandStop}
use Rattle.command_base.specs.declared.stop.CommandStop.TheVariants.{NoMemory, Refused}
use Rattle.command_base.specs.Reading.{IsUnreadable}
use Rattle.command_base.specs.Stop.{of_part}
use Rattle.command_base.specs.declared.layouts.TheConstants.{MAX_LAYOUT_BYTES}
use Rattle.command_base.specs.Find.{HoldsNoTable}
use Rattle.command_base.specs.Layouts.{IsLayoutOf, NamesNoFiles}
use Rattle.command_base.specs.MergedObjects.{ArePartsOf, IsNoPart}

-- a file of a layout is read, its bytes are parsed, then its ORC sections are, and each of its places names a text section
pub data RefusesFile (file : FileSaid) (held : Content) : CommandStop → Type 0 where
  object_unread : {stop : CommandStop} → IsUnreadable MAX_FILE_BYTES held file.name stop → RefusesFile file held stop
  without_part :
      {stop : CommandStop} (bytes : List ℕ)
      → reading held file.name MAX_FILE_BYTES ≡ Ok bytes
      → IsNoPart bytes file.places stop
      → stop ≢ NoMemory
      → RefusesFile file held stop

-- `merge LAYOUT OUT`: LAYOUT is read, then its lines are, of which not too many name files; then each of the files in their order, with
-- all its steps before those of the next; and then the rows of all are merged.
pub data RefusesMerge (layout : List ℕ) (held : Content) : CommandStop → Type 0 where
  layout_unread : {stop : CommandStop} → IsUnreadable MAX_LAYOUT_BYTES held layout stop → RefusesMerge layout held stop
  without_files :
      {stop : CommandStop} (text : List ℕ)
      → reading held layout MAX_LAYOUT_BYTES ≡ Ok text
      → NamesNoFiles text stop
      → stop ≢ NoMemory
      → RefusesMerge layout held stop
  file_refused :
      {told : CommandStop} (said ahead behind : List FileSaid) (file : FileSaid) (parts : List Part) (stop : CommandStop)
      → IsLayoutOf (Some held) layout said
      → said ≡ ahead ++ file ∷ behind
      → ArePartsOf (Some held) ahead parts
      → RefusesFile file held stop
      → told ≡ of_part (length ahead) stop
      → RefusesMerge layout held told
  unmerged :
      {fault : MergeFault} (said : List FileSaid) (parts : List Part)
      → IsLayoutOf (Some held) layout said
      → ArePartsOf (Some held) said parts
      → merge_fault parts ≡ Some fault
      → RefusesMerge layout held (Refused (Merge fault))

-- `find TABLE ADDR`: TABLE is read, and then parsed.
pub data RefusesFind (table : List ℕ) (held : Content) : CommandStop → Type 0 where
  table_unread : {stop : CommandStop} → IsUnreadable MAX_FILE_BYTES held table stop → RefusesFind table held stop
  without_table :
      {stop : CommandStop} (bytes : List ℕ)
      → reading held table MAX_FILE_BYTES ≡ Ok bytes
      → HoldsNoTable bytes stop
      → stop ≢ NoMemory
      → RefusesFind table held stop
