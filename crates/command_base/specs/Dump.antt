-- What the command `dump FILE` prints, on whatever FILE holds, and how it ends.
use Rattle.std.specs.Prelude.{◌≡◌, ◌⊎◌, ℕ, List, Option, Ok}
use Rattle.std.specs.List.{flat_map}
use Rattle.ot_base.specs.declared.row.PlacedRow.{PlacedRow}
use Rattle.ot_base.specs.RowText.{row_line}
use Rattle.ot_files.specs.Content.{Content}
use Rattle.ot_files.specs.Output.{appending}
use Rattle.elf_objects.specs.declared.TheConstants.{MAX_FILE_BYTES}
use Rattle.elf_objects.specs.declared.fault.ElfFault.{ElfFault}
use Rattle.elf_objects.specs.Elf.{Elf}
use Rattle.elf_objects.specs.Contents.{section_at}
use Rattle.elf_objects.specs.Object as object
use Rattle.elf_objects.specs.Object.{IsObject}
use Rattle.orc_bytes.specs.declared.fault.OrcFault.{OrcFault}
use Rattle.orc_bytes.specs.Faults as orc
use Rattle.orc_bytes.specs.Sections.{HoldsOrc}
use Rattle.command_base.specs.declared.refusal.Refusal.TheVariants.{Malformed, Orc}
use Rattle.command_base.specs.declared.status.Status.{Status}
use Rattle.command_base.specs.declared.status.Status.TheVariants as status
use Rattle.command_base.specs.declared.stop.CommandStop.{CommandStop}
use Rattle.command_base.specs.declared.stop.CommandStop.TheVariants.{Refused, NoMemory}
use Rattle.command_base.specs.Outside.{Outside, Output}
use Rattle.command_base.specs.Printing.{Concludes, Prints}
use Rattle.command_base.specs.Reading.{MayRead, StopsAtRead}

-- the text of some rows of an object: a line for each, in their order
abbrev pub rows_text : Elf → List PlacedRow → List ℕ
rows_text o rows = flat_map (λ placed. row_line (section_at o placed.place.sec).name placed) rows

-- these bytes are an object, whose ORC sections hold these rows
pub record HoldsRows (bytes : List ℕ) (o : Elf) (rows : List PlacedRow) : Type 0 where
  pub object : IsObject bytes o
  pub held : HoldsOrc o rows

-- Why bytes aren't read as the rows of an object: they are no object, and this is their first fault; or one whose ORC
-- sections hold no rows, and this is the first fault of these; or memory ran out.
pub data HoldsNoRows (bytes : List ℕ) : CommandStop → Type 0 where
  malformed : {fault : ElfFault} → object.FirstFault bytes fault → HoldsNoRows bytes (Refused (Malformed fault))
  no_rows : {fault : OrcFault} (o : Elf) → IsObject bytes o → orc.FirstFault o fault → HoldsNoRows bytes (Refused (Orc fault))
  no_memory : HoldsNoRows bytes NoMemory

-- How `dump` ends on these bytes of FILE: it prints the rows that they hold, or tells why they hold none.
pub data Dumps (bytes : List ℕ) (out out' : Output) : Status → Type 0 where
  printed : {s : Status} (o : Elf) (rows : List PlacedRow) → HoldsRows bytes o rows → Prints status.Done (rows_text o rows) out out' s → Dumps bytes out out' s
  stopped : {s : Status} (stop : CommandStop) → HoldsNoRows bytes stop → Concludes stop out out' s → Dumps bytes out out' s

-- How `dump` ends: FILE isn't read, or is read as some bytes.
pub data EndsDump (file : List ℕ) (before after : Outside) (out out' : Output) : Status → Type 0 where
  unread : {s : Status} (stop : CommandStop) → StopsAtRead MAX_FILE_BYTES file before after stop → Concludes stop out out' s → EndsDump file before after out out' s
  read : {s : Status} (bytes : List ℕ) → MayRead MAX_FILE_BYTES before.content file (Ok bytes) → Dumps bytes out out' s → EndsDump file before after out out' s

-- FILE was read as an object whose ORC sections hold some rows, and the lines of these rows were printed.
pub record IsDumped (file : List ℕ) (content : Option Content) (before after : Option (List ℕ)) : Type 0 where
  pub bytes : List ℕ
  pub may : MayRead MAX_FILE_BYTES content file (Ok bytes)
  pub object : Elf
  pub rows : List PlacedRow
  pub held : HoldsRows bytes object rows
  pub printed : after ≡ appending before (rows_text object rows)

-- what the command may answer where nothing is refused
abbrev pub IsAnswered : Status → Type 0
IsAnswered s = (s ≡ status.Done) ⊎ ((s ≡ status.FileFault) ⊎ ((s ≡ status.SinkFault) ⊎ (s ≡ status.NoMemory)))
