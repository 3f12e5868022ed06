-- A map from places to lengths, as the reader keeps it.
use Rattle.std.specs.Prelude.{◌≡◌, ℕ, List, unwrap_or}
use Rattle.std.specs.BTreeMap.{BTreeMap, get}
use Rattle.ot_base.specs.declared.place.Place.{Place}
use Rattle.ot_base.specs.Places.{place_cmp}
use Rattle.special_sections.specs.declared.entries.AltEntry.{AltEntry}
use Rattle.special_sections.specs.Nested.{longest_at}

-- it has the greatest length of the originals at each place
pub record AreLongest (entries : List AltEntry) (lengths : BTreeMap Place ℕ) : Type 0 where
  pub each : (place : Place) → unwrap_or (get place_cmp lengths place) 0 ≡ longest_at entries place
