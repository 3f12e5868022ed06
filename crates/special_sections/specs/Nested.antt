-- Alternatives that are nested in one another: several entries of one original place, whose originals may be written with
-- different lengths (Linux 6.6, ALTERNATIVE_2 of alternative.h).
use Rattle.std.specs.Prelude.{ℕ, ◌==◌, max, List, map, filter, fold, if◌then◌else◌}
use Rattle.ot_base.specs.declared.place.Place.{Place}
use Rattle.ot_base.specs.Places.{same_place}
use Rattle.special_sections.specs.declared.entries.AltEntry.{AltEntry}

-- the greatest length of the originals at a place, in bytes
abbrev pub longest_at : List AltEntry → Place → ℕ
longest_at entries place = fold (λ longest a. max longest a.original_len) 0 (filter (λ a. same_place a.original place) entries)

-- an entry that has an original, with the longest at its place
abbrev pub with_longest : List AltEntry → AltEntry → AltEntry
with_longest entries a = if a.original_len == 0 then a else record a { original_len = longest_at entries a.original }

-- all entries with the longest originals at their places, so that those of one place have one length
unfoldable pub nested : List AltEntry → List AltEntry
nested entries = map (with_longest entries) entries
