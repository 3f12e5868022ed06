-- Hints in the order of their places.
use Rattle.std.specs.Prelude.{◌≡◌, ◌<◌, ◌≤◌, ℕ, false, List, length, slice_index_or}
use Rattle.ot_base.specs.declared.place.Place.{Place}
use Rattle.ot_base.specs.Places.{is_before}
use Rattle.special_sections.specs.declared.entries.HintEntry.{HintEntry}
use Rattle.special_sections.specs.HintStates.{last_hint_at}

-- no hint is before one that stands in front of it
abbrev pub AreByPlace : List HintEntry → Type 0
AreByPlace hints = (i j : ℕ) (d : HintEntry) → i ≤ j → j < length hints → is_before (slice_index_or hints j d).place (slice_index_or hints i d).place ≡ false

-- the same hints come last at each place
pub record HaveSameLast (hints sorted : List HintEntry) : Type 0 where
  pub same : (place : Place) → last_hint_at sorted place ≡ last_hint_at hints place
