-- What a command reads that is given IN and maybe a names file, and why it is refused on files that hold this: what the first step finds
-- that fails, in the order of the steps. Faults of files, and want of memory, are no refusals.
use Rattle.std.specs.Prelude.{◌≡◌, ◌≢◌, ℕ, List, Option, Some, Ok}
use Rattle.ot_base.specs.NameLists.{NameLists}
use Rattle.ot_base.specs.NamesFile.{IsFirstFault}
use Rattle.ot_base.specs.declared.lists.ListsFault.TheVariants.{Line}
use Rattle.ot_base.specs.declared.lists.ListsWhy.{ListsWhy}
use Rattle.ot_files.specs.Content.{Content, reading}
use Rattle.elf_objects.specs.declared.TheConstants.{MAX_FILE_BYTES}
use Rattle.command_base.specs.Names.{HasNames}
use Rattle.command_base.specs.Reading.{IsUnreadable, MayRead}
use Rattle.command_base.specs.declared.refusal.Refusal.TheVariants.{Lists}
use Rattle.command_base.specs.declared.stop.CommandStop.{CommandStop}
use Rattle.command_base.specs.declared.stop.CommandStop.TheVariants.{NoMemory, Refused}

-- The file IN may read as these bytes, and these are the lists of names of the names file, or the built-in ones where none is given.
pub record IsRead (content : Option Content) (input : List ℕ) (names : Option (List ℕ)) (read : List ℕ) (lists : NameLists) : Type 0 where
  pub may : MayRead MAX_FILE_BYTES content input (Ok read)
  pub named : HasNames content names lists

-- IN is read; then the names file, where one is given, and its lines; then what the bytes of IN are under these lists, which a stop of
-- `Stops` refuses.
pub data RefusesInput (Stops : List ℕ → NameLists → CommandStop → Type 0) (input : List ℕ) (names : Option (List ℕ)) (held : Content) : CommandStop → Type 0 where
  input_unread : {stop : CommandStop} → IsUnreadable MAX_FILE_BYTES held input stop → RefusesInput Stops input names held stop
  list_unread :
      {stop : CommandStop} (read file : List ℕ)
      → reading held input MAX_FILE_BYTES ≡ Ok read
      → names ≡ Some file
      → IsUnreadable MAX_FILE_BYTES held file stop
      → RefusesInput Stops input names held stop
  list_faulty :
      {line : ℕ} {why : ListsWhy} (read file text : List ℕ)
      → reading held input MAX_FILE_BYTES ≡ Ok read
      → names ≡ Some file
      → reading held file MAX_FILE_BYTES ≡ Ok text
      → IsFirstFault text line why
      → RefusesInput Stops input names held (Refused (Lists (Line line why)))
  input_refused :
      {stop : CommandStop} (read : List ℕ) (lists : NameLists)
      → reading held input MAX_FILE_BYTES ≡ Ok read
      → HasNames (Some held) names lists
      → Stops read lists stop
      → stop ≢ NoMemory
      → RefusesInput Stops input names held stop
