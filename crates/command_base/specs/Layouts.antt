-- Which files a layout names, and where their sections lie.
use Rattle.std.specs.Prelude.{◌≡◌, ℕ, ◌<◌, ◌≤◌, List, length, sum_by, Option, Ok}
use Rattle.ot_files.specs.Content.{Content}
use Rattle.orc_merge.specs.LayoutFile.{FileSaid, IsFirstFault, IsLayout, layout_files}
use Rattle.orc_merge.specs.declared.faults.LayoutFault.TheVariants.{Line}
use Rattle.orc_merge.specs.declared.faults.LayoutWhy.{LayoutWhy}
use Rattle.command_base.specs.declared.refusal.Refusal.TheVariants.{Layout, TooManyFiles}
use Rattle.command_base.specs.declared.stop.CommandStop.{CommandStop}
use Rattle.command_base.specs.declared.stop.CommandStop.TheVariants.{NoMemory, Refused}
use Rattle.command_base.specs.Outside.{Outside}
use Rattle.command_base.specs.Reading.{MayRead, StopsAtRead}
use Rattle.command_base.specs.declared.layouts.TheConstants.{MAX_LAYOUT_BYTES, MOST_FILES}

-- a text is a layout, these are its files, and they aren't too many
pub record NamesFiles (text : List ℕ) (said : List FileSaid) : Type 0 where
  pub is : IsLayout text
  pub files : said ≡ layout_files text
  pub few : length said ≤ MOST_FILES

-- Why a text names no files that can be merged: it is no layout, and this is its first faulty line; or it names too many, and this is
-- their number; or memory ran out.
pub data NamesNoFiles (text : List ℕ) : CommandStop → Type 0 where
  faulty : {line : ℕ} {why : LayoutWhy} → IsFirstFault text line why → NamesNoFiles text (Refused (Layout (Line line why)))
  too_many :
      {count : ℕ}
      → IsLayout text
      → count ≡ length (layout_files text)
      → MOST_FILES < length (layout_files text)
      → NamesNoFiles text (Refused (TooManyFiles count))
  no_memory : NamesNoFiles text NoMemory

-- LAYOUT may read as a text that names these files
pub record IsLayoutOf (content : Option Content) (layout : List ℕ) (said : List FileSaid) : Type 0 where
  pub text : List ℕ
  pub may : MayRead MAX_LAYOUT_BYTES content layout (Ok text)
  pub names : NamesFiles text said

-- A command stops so that needs these files: LAYOUT isn't read, or is read as a text that names none that can be merged.
pub data StopsAtLayout (layout : List ℕ) (before after : Outside) : CommandStop → Type 0 where
  unread : {stop : CommandStop} → StopsAtRead MAX_LAYOUT_BYTES layout before after stop → StopsAtLayout layout before after stop
  no_files :
      {stop : CommandStop} (text : List ℕ)
      → MayRead MAX_LAYOUT_BYTES before.content layout (Ok text)
      → NamesNoFiles text stop
      → StopsAtLayout layout before after stop

-- how many sections a layout places
abbrev pub number_of_places : List FileSaid → ℕ
number_of_places said = sum_by (λ file. length file.places) said
