-- The objects that a layout names.
use Rattle.std.specs.Prelude.{◌≡◌, ⊤, ℕ, ◌^◌, ◌<◌, List, [], ◌∷◌, ◌++◌, length, All, Option, Some, None, Ok}
use Rattle.ot_base.specs.declared.row.PlacedRow.{PlacedRow}
use Rattle.ot_files.specs.Content.{Content}
use Rattle.elf_objects.specs.declared.TheConstants.{MAX_FILE_BYTES}
use Rattle.elf_objects.specs.Elf.{Elf}
use Rattle.orc_merge.specs.LayoutFile.{FileSaid}
use Rattle.orc_merge.specs.Parts.{AreRows, AreWithin, all_ranges}
use Rattle.orc_merge.specs.declared.part.Part.{Part}
use Rattle.command_base.specs.declared.refusal.Refusal.TheVariants.{NoText}
use Rattle.command_base.specs.declared.stop.CommandStop.{CommandStop}
use Rattle.command_base.specs.declared.stop.CommandStop.TheVariants.{NoMemory, Refused}
use Rattle.command_base.specs.Dump.{HoldsNoRows, HoldsRows}
use Rattle.command_base.specs.Outside.{Outside}
use Rattle.command_base.specs.Reading.{MayRead, StopsAtRead}
use Rattle.command_base.specs.Stop.{of_part}
use Rattle.command_base.specs.Unwind.{first_foreign, ranges_of}

-- These bytes are an object whose ORC sections hold the part's rows; each place names a text section of it, and the part's ranges are
-- these sections at the bases that the places tell.
pub record IsPart (bytes : List ℕ) (places : List (ℕ × ℕ)) (part : Part) : Type 0 where
  pub object : Elf
  pub held : HoldsRows bytes object part.rows.items
  pub texts : first_foreign object places ≡ None
  pub ranges : part.ranges.items ≡ ranges_of object places

-- Why bytes and places are no part, in this order: the bytes hold no rows, or memory ran out; or a place names no text section, and this
-- is the first such.
pub data IsNoPart (bytes : List ℕ) (places : List (ℕ × ℕ)) : CommandStop → Type 0 where
  no_rows : {stop : CommandStop} → HoldsNoRows bytes stop → IsNoPart bytes places stop
  foreign : {sec : ℕ} (o : Elf) (rows : List PlacedRow) → HoldsRows bytes o rows → first_foreign o places ≡ Some sec → IsNoPart bytes places (Refused (NoText sec))

-- a file of a layout may read as bytes that are this part with its places
pub record IsPartOf (content : Option Content) (file : FileSaid) (part : Part) : Type 0 where
  pub bytes : List ℕ
  pub may : MayRead MAX_FILE_BYTES content file.name (Ok bytes)
  pub is : IsPart bytes file.places part

-- each file of a layout may read as the part with its number, and there are no further parts
abbrev pub ArePartsOf : Option Content → List FileSaid → List Part → Type 0
ArePartsOf content [] [] = ⊤
ArePartsOf content [] (part ∷ parts) = ⊥
ArePartsOf content (file ∷ files) [] = ⊥
ArePartsOf content (file ∷ files) (part ∷ parts) = IsPartOf content file part × ArePartsOf content files parts

-- why a file of a layout gives no part: it isn't read, or is read as bytes that are none with its places
pub data HasNoPart (file : FileSaid) (before after : Outside) : CommandStop → Type 0 where
  unread : {stop : CommandStop} → StopsAtRead MAX_FILE_BYTES file.name before after stop → HasNoPart file before after stop
  no_part :
      {stop : CommandStop} (bytes : List ℕ)
      → MayRead MAX_FILE_BYTES before.content file.name (Ok bytes)
      → IsNoPart bytes file.places stop
      → HasNoPart file before after stop

-- A command stops so that needs the parts of these files: each file ahead of one is a part, and that one isn't, for this reason, which is
-- told with its number; or memory ran out.
pub data StopsAtParts (files : List FileSaid) (before after : Outside) : CommandStop → Type 0 where
  at_file :
      {told : CommandStop} (ahead behind : List FileSaid) (file : FileSaid) (parts : List Part) (stop : CommandStop)
      → files ≡ ahead ++ file ∷ behind
      → ArePartsOf before.content ahead parts
      → HasNoPart file before after stop
      → told ≡ of_part (length ahead) stop
      → StopsAtParts files before after told
  no_memory : StopsAtParts files before after NoMemory

-- ---- what merging asks of parts

-- The rows aren't too many to be numbered, none lies beyond the end of its section's range, six bytes hold each; and there are so many
-- ranges.
pub record IsMergeable (part : Part) (count : ℕ) : Type 0 where
  pub few : length part.rows.items < 2 ^ 32
  pub within : AreWithin part
  pub rows : AreRows part
  pub ranges : length part.ranges.items ≡ count

-- the same of all parts, of which there are few, as of their ranges
pub record CanBeMerged (parts : List Part) : Type 0 where
  pub number : length parts < 2 ^ 32
  pub few : All (λ part. length part.rows.items < 2 ^ 32) parts
  pub ranges : length (all_ranges parts) < 2 ^ 32
  pub within : All AreWithin parts
  pub rows : All AreRows parts
