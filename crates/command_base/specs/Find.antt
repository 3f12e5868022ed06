-- What the command `find TABLE ADDR` prints, on whatever TABLE holds, and how it ends.
use Rattle.std.specs.Prelude.{◌≡◌, ℕ, List, ◌++◌, Option, Some, None, Ok, codes}
use Rattle.ot_base.specs.declared.row.Row.{Row}
use Rattle.ot_base.specs.PlaceText.{hexadecimal}
use Rattle.ot_base.specs.RowText.{row_words}
use Rattle.ot_files.specs.Content.{Content}
use Rattle.ot_files.specs.Output.{appending}
use Rattle.elf_objects.specs.declared.TheConstants.{MAX_FILE_BYTES}
use Rattle.orc_merge.specs.TableFaults.{first_bad}
use Rattle.orc_merge.specs.declared.faults.TableFault.TheVariants.{Bad}
use Rattle.command_base.specs.declared.refusal.Refusal.TheVariants.{Table}
use Rattle.command_base.specs.declared.status.Status.{Status}
use Rattle.command_base.specs.declared.status.Status.TheVariants as status
use Rattle.command_base.specs.declared.stop.CommandStop.{CommandStop}
use Rattle.command_base.specs.declared.stop.CommandStop.TheVariants.{NoMemory, Refused}
use Rattle.command_base.specs.Outside.{Outside, Output}
use Rattle.command_base.specs.Printing.{Concludes, Prints}
use Rattle.command_base.specs.Reading.{MayRead, StopsAtRead}
use Rattle.command_base.specs.Alike.{FindsRow}

-- the line of what holds at an address: the address and the row's words, or that there is no row
unfoldable pub found_line : ℕ → Option Row → List ℕ
found_line address None = codes "no row\n"
found_line address (Some row) = codes "0x" ++ hexadecimal address ++ codes ": " ++ row_words row ++ codes "\n"

-- why bytes are no table: this is the first offset where they are wrong; or memory ran out
pub data HoldsNoTable (bytes : List ℕ) : CommandStop → Type 0 where
  bad : {off : ℕ} → first_bad bytes ≡ Some off → HoldsNoTable bytes (Refused (Table (Bad off)))
  no_memory : HoldsNoTable bytes NoMemory

-- How `find` ends on these bytes of TABLE: it prints what holds at the address, or tells why they are no table.
pub data Finds (bytes : List ℕ) (address : ℕ) (out out' : Output) : Status → Type 0 where
  printed : {s : Status} (found : Option Row) → FindsRow bytes address found → Prints status.Done (found_line address found) out out' s → Finds bytes address out out' s
  stopped : {s : Status} (stop : CommandStop) → HoldsNoTable bytes stop → Concludes stop out out' s → Finds bytes address out out' s

-- How `find` ends: TABLE isn't read, or is read as some bytes.
pub data EndsFind (table : List ℕ) (address : ℕ) (before after : Outside) (out out' : Output) : Status → Type 0 where
  unread : {s : Status} (stop : CommandStop) → StopsAtRead MAX_FILE_BYTES table before after stop → Concludes stop out out' s → EndsFind table address before after out out' s
  read : {s : Status} (bytes : List ℕ) → MayRead MAX_FILE_BYTES before.content table (Ok bytes) → Finds bytes address out out' s → EndsFind table address before after out out' s

-- TABLE was read as a table, and the line of what holds in it at the address was printed.
pub record IsFound (table : List ℕ) (address : ℕ) (content : Option Content) (before after : Option (List ℕ)) : Type 0 where
  pub bytes : List ℕ
  pub may : MayRead MAX_FILE_BYTES content table (Ok bytes)
  pub found : Option Row
  pub finds : FindsRow bytes address found
  pub printed : after ≡ appending before (found_line address found)
