-- What the command `unwind FILE IMAGE` prints, on whatever its files hold, and how it ends.
use Rattle.std.specs.Prelude.{◌≡◌, ℕ, ◌<◌, Bool, ◌&&◌, not, nat_lt, List, length, map, find, Option, Some, None, option_map, Ok}
use Rattle.ot_base.specs.declared.row.PlacedRow.{PlacedRow}
use Rattle.ot_files.specs.Content.{Content}
use Rattle.ot_files.specs.Output.{appending}
use Rattle.table_defs.specs.declared.frame.Frame.{Frame}
use Rattle.table_defs.specs.declared.frame.Stop as walk
use Rattle.table_defs.specs.declared.range.Range.{Range}
use Rattle.table_defs.specs.Walk.{Walks}
use Rattle.elf_objects.specs.declared.TheConstants.{MAX_FILE_BYTES}
use Rattle.elf_objects.specs.Elf.{Elf}
use Rattle.elf_objects.specs.Contents.{is_text, section_at}
use Rattle.orc_walk.specs.declared.faults.PlaceFault.{PlaceFault}
use Rattle.orc_walk.specs.Faults.{place_fault}
use Rattle.orc_walk.specs.Memory.{word_at}
use Rattle.orc_walk.specs.declared.image_fault.ImageWhy.{ImageWhy}
use Rattle.orc_walk.specs.declared.image_fault.ImageFault.TheVariants.{Line}
use Rattle.orc_walk.specs.ImageFile.{StackImage, IsImage, IsImageFault}
use Rattle.command_base.specs.declared.refusal.Refusal.TheVariants.{Image, NoText, Unplaced}
use Rattle.command_base.specs.declared.reading.TheConstants.{MAX_IMAGE_BYTES}
use Rattle.command_base.specs.declared.status.Status.{Status}
use Rattle.command_base.specs.declared.status.Status.TheVariants as status
use Rattle.command_base.specs.declared.stop.CommandStop.{CommandStop}
use Rattle.command_base.specs.declared.stop.CommandStop.TheVariants.{Refused, NoMemory}
use Rattle.command_base.specs.Outside.{Outside, Output}
use Rattle.command_base.specs.Printing.{Concludes, Prints}
use Rattle.command_base.specs.Reading.{MayRead, StopsAtRead}
use Rattle.command_base.specs.Dump.{HoldsNoRows, HoldsRows}
use Rattle.command_base.specs.WalkText.{walk_text}

-- whether a number is that of a text section
abbrev pub is_text_section : Elf → ℕ → Bool
is_text_section o sec = nat_lt sec (length o.sections) && is_text (section_at o sec)

-- the first place that names no text section
abbrev pub first_foreign : Elf → List (ℕ × ℕ) → Option ℕ
first_foreign o places = option_map (λ place. place.0) (find (λ place. not (is_text_section o place.0)) places)

-- a section at the base that a place tells, with the section's size; and all of them
abbrev pub range_of : Elf → ℕ × ℕ → Range
range_of o place = record { sec = place.0; base = place.1; size = (section_at o place.0).size }

abbrev pub ranges_of : Elf → List (ℕ × ℕ) → List Range
ranges_of o places = map (range_of o) places

-- A text is an image; bytes are an object that holds rows, each place of the image names a text section of it, and its
-- rows can be placed there.
pub record IsPlaced (bytes text : List ℕ) (image : StackImage) (o : Elf) (rows : List PlacedRow) : Type 0 where
  pub is_image : IsImage text image
  pub held : HoldsRows bytes o rows
  pub texts : first_foreign o image.places ≡ None
  pub fits : place_fault rows (ranges_of o image.places) ≡ None

-- These are the frames and the stop of the walk by these rows from the image's registers over its memory.
abbrev pub WalksBy : StackImage → Elf → List PlacedRow → List Frame → walk.Stop → Type 0
WalksBy image o rows frames stop = Walks rows (ranges_of o image.places) (word_at image.memory) image.regs frames stop

-- Why there is no walk, in this order: the text is no image, and this is its first fault; the bytes hold no rows; a place
-- names no text section, and this is the first such; the rows can't be placed, and this is the first fault; or memory ran
-- out.
pub data HasNoWalk (bytes text : List ℕ) : CommandStop → Type 0 where
  no_image : {line : ℕ} {why : ImageWhy} → IsImageFault text (Line line why) → HasNoWalk bytes text (Refused (Image (Line line why)))
  no_rows : {stop : CommandStop} (image : StackImage) → IsImage text image → HoldsNoRows bytes stop → HasNoWalk bytes text stop
  foreign :
      {sec : ℕ} (image : StackImage) (o : Elf) (rows : List PlacedRow)
      → IsImage text image
      → HoldsRows bytes o rows
      → first_foreign o image.places ≡ Some sec
      → HasNoWalk bytes text (Refused (NoText sec))
  unplaced :
      {fault : PlaceFault} (image : StackImage) (o : Elf) (rows : List PlacedRow)
      → IsImage text image
      → HoldsRows bytes o rows
      → first_foreign o image.places ≡ None
      → place_fault rows (ranges_of o image.places) ≡ Some fault
      → HasNoWalk bytes text (Refused (Unplaced fault))
  no_memory : HasNoWalk bytes text NoMemory

-- How `unwind` ends on these bytes of FILE and this text of IMAGE: it prints the walk, or tells why there is none.
pub data Unwinds (bytes text : List ℕ) (out out' : Output) : Status → Type 0 where
  walked :
      {s : Status} (image : StackImage) (o : Elf) (rows : List PlacedRow) (frames : List Frame) (stop : walk.Stop)
      → IsPlaced bytes text image o rows
      → WalksBy image o rows frames stop
      → Prints status.Done (walk_text frames stop) out out' s
      → Unwinds bytes text out out' s
  stopped : {s : Status} (stop : CommandStop) → HasNoWalk bytes text stop → Concludes stop out out' s → Unwinds bytes text out out' s

-- How `unwind` ends: FILE isn't read, or IMAGE isn't, or both are.
pub data EndsUnwind (file image : List ℕ) (before after : Outside) (out out' : Output) : Status → Type 0 where
  no_file : {s : Status} (stop : CommandStop) → StopsAtRead MAX_FILE_BYTES file before after stop → Concludes stop out out' s → EndsUnwind file image before after out out' s
  no_text :
      {s : Status} (bytes : List ℕ) (stop : CommandStop)
      → MayRead MAX_FILE_BYTES before.content file (Ok bytes)
      → StopsAtRead MAX_IMAGE_BYTES image before after stop
      → Concludes stop out out' s
      → EndsUnwind file image before after out out' s
  read :
      {s : Status} (bytes text : List ℕ)
      → MayRead MAX_FILE_BYTES before.content file (Ok bytes)
      → MayRead MAX_IMAGE_BYTES before.content image (Ok text)
      → Unwinds bytes text out out' s
      → EndsUnwind file image before after out out' s

-- Both files were read, the walk has these frames and this stop, and its text was printed.
pub record IsUnwound (file image : List ℕ) (content : Option Content) (before after : Option (List ℕ)) : Type 0 where
  pub bytes : List ℕ
  pub may : MayRead MAX_FILE_BYTES content file (Ok bytes)
  pub text : List ℕ
  pub may_text : MayRead MAX_IMAGE_BYTES content image (Ok text)
  pub stack : StackImage
  pub object : Elf
  pub rows : List PlacedRow
  pub placed : IsPlaced bytes text stack object rows
  pub frames : List Frame
  pub stop : walk.Stop
  pub walks : WalksBy stack object rows frames stop
  pub printed : after ≡ appending before (walk_text frames stop)

-- ---- its parts

-- A stop says that a place names no text section, and which is the first such; or that memory ran out.
abbrev pub IsForeign : Elf → List (ℕ × ℕ) → CommandStop → Type 0
IsForeign o places (Refused (NoText sec)) = first_foreign o places ≡ Some sec
IsForeign o places NoMemory = Unit {0}
IsForeign o places _ = ⊥

-- the frames and the stop of the walk that the bytes and the text give
pub record IsWalk (bytes text : List ℕ) (frames : List Frame) (stop : walk.Stop) : Type 0 where
  pub image : StackImage
  pub object : Elf
  pub rows : List PlacedRow
  pub placed : IsPlaced bytes text image object rows
  pub walks : WalksBy image object rows frames stop
