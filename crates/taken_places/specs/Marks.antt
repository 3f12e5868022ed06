-- Where the table of section names has a text, and which sections' names have it.
use Rattle.std.specs.Prelude.{◌≡◌, ◌<◌, ℕ, true, Bool, List, false, drop, length, slice_index_or}
use Rattle.elf_objects.specs.Contents.{section_at}
use Rattle.elf_objects.specs.Elf.{Elf}
use Rattle.flow_defs.specs.TableFields.{begins_with}
use Rattle.taken_places.specs.Taken.{has_text}

-- the table of section names
abbrev pub section_names : Elf → List ℕ
section_names o = (section_at o o.name_table).body

-- the text begins at an offset of a table
abbrev pub begins_at : List ℕ → List ℕ → ℕ → Bool
begins_at text table at = begins_with (drop at table) text

-- at each of these offsets it does, and at no other below a bound; they rise
pub record AreStarts (text table : List ℕ) (bound : ℕ) (starts : List ℕ) : Type 0 where
  pub each : (k d : ℕ) → k < length starts → begins_at text table (slice_index_or starts k d) ≡ true
  pub below : (k d : ℕ) → k < length starts → slice_index_or starts k d < bound
  pub all : (at : ℕ) → at < bound → begins_at text table at ≡ true → (k : ℕ) × (k < length starts) × ((d : ℕ) → slice_index_or starts k d ≡ at)
  pub rising : (i j d : ℕ) → i < j → j < length starts → slice_index_or starts i d < slice_index_or starts j d

-- for each section of the object, whether its name has the text
pub record AreMarks (text : List ℕ) (o : Elf) (marks : List Bool) : Type 0 where
  pub each : (sec : ℕ) → sec < length o.sections → slice_index_or marks sec false ≡ has_text text (section_at o sec).name
  pub long : length marks ≡ length o.sections
