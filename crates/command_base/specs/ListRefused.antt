-- Why `list` is refused on files that hold this: what the first step finds that fails, in the order of the steps. Faults of files and of
-- the output, and want of memory, are no refusals.
use Rattle.std.specs.Prelude.{◌≡◌, ◌≢◌, ℕ, List, Ok}
use Rattle.ot_files.specs.Content.{Content, reading}
use Rattle.elf_objects.specs.declared.TheConstants.{MAX_FILE_BYTES}
use Rattle.command_base.specs.Reading.{IsUnreadable}
use Rattle.command_base.specs.declared.stop.CommandStop.{CommandStop}
use Rattle.command_base.specs.declared.stop.CommandStop.TheVariants.{NoMemory}
use Rattle.command_base.specs.List.{HoldsNoLists}

-- `list FILE`: FILE is read and parsed, and then its site lists are.
pub data RefusesList (file : List ℕ) (held : Content) : CommandStop → Type 0 where
  object_unread : {stop : CommandStop} → IsUnreadable MAX_FILE_BYTES held file stop → RefusesList file held stop
  without_lists :
      {stop : CommandStop} (bytes : List ℕ)
      → reading held file MAX_FILE_BYTES ≡ Ok bytes
      → HoldsNoLists bytes stop
      → stop ≢ NoMemory
      → RefusesList file held stop
