-- Marks at the offsets of places.
use Rattle.std.specs.Prelude.{◌≡◌, ◌+◌, ◌-◌, ◌/◌, ◌%◌, ◌<◌, ◌==◌, ◌&&◌, ◌||◌, not, if◌then◌else◌, ℕ, Bool, true, false, List, None, length, slice_index_or, bit_and}
use Rattle.ot_base.specs.declared.place.Place.{Place}
use Rattle.special_sections.specs.declared.entries.HintEntry.{HintEntry}
use Rattle.special_sections.specs.HintStates.{last_hint_at}

-- The number of the mark of a place, of so many: the last bits of its offset, where they are a power of two.
abbrev pub mark_of : ℕ → Place → ℕ
mark_of count place = bit_and place.off (count - 1)

-- The tag of a place, by which places with one mark are told apart.
abbrev pub tag_of : Place → ℕ
tag_of place = (place.sec + place.off / 4096) % 128 + 1

-- a mark with one more tag: 0 has none, 255 several
abbrev pub with_tag : ℕ → ℕ → ℕ
with_tag mark tag = if (mark == 0) || (mark == tag) then tag else 255

abbrev pub has_tag : ℕ → ℕ → Bool
has_tag mark tag = not (mark == 0) && ((mark == 255) || (mark == tag))

-- the mark of a place has its tag
abbrev pub is_marked : ℕ → List ℕ → Place → Bool
is_marked count marks place = has_tag (slice_index_or marks (mark_of count place) 0) (tag_of place)

-- those of all these are
abbrev pub AreMarked : ℕ → List Place → List ℕ → Type 0
AreMarked count places marks = (k : ℕ) (d : Place) → k < length places → is_marked count marks (slice_index_or places k d) ≡ true

-- at a place whose mark isn't set there is none of these hints
abbrev pub HasUnmarkedNone : List HintEntry → List ℕ → Type 0
HasUnmarkedNone hints marks = (place : Place) → is_marked (length marks) marks place ≡ false → last_hint_at hints place ≡ None
