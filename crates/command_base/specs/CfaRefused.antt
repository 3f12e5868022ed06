-- Why `cfa` is refused on files that hold this: what the first step finds that fails, in the order of the steps. Faults of files and of
-- the output, and want of memory, are no refusals.
use Rattle.std.specs.Prelude.{◌≡◌, ◌≢◌, ℕ, List, Ok}
use Rattle.ot_files.specs.Content.{Content, reading}
use Rattle.elf_objects.specs.declared.TheConstants.{MAX_FILE_BYTES}
use Rattle.command_base.specs.Reading.{IsUnreadable}
use Rattle.command_base.specs.declared.stop.CommandStop.{CommandStop}
use Rattle.command_base.specs.declared.stop.CommandStop.TheVariants.{NoMemory}
use Rattle.command_base.specs.Cfa.{SaysNoRules}

-- `cfa FILE`: FILE is read and parsed, and then its call frame information is.
pub data RefusesCfa (file : List ℕ) (held : Content) : CommandStop → Type 0 where
  object_unread : {stop : CommandStop} → IsUnreadable MAX_FILE_BYTES held file stop → RefusesCfa file held stop
  without_rules :
      {stop : CommandStop} (bytes : List ℕ)
      → reading held file MAX_FILE_BYTES ≡ Ok bytes
      → SaysNoRules bytes stop
      → stop ≢ NoMemory
      → RefusesCfa file held stop
