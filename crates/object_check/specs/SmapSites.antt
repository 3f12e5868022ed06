-- The sites that have a replacement for processors with SMAP, by their starts.
use Rattle.std.specs.Prelude.{◌≡◌, Bool, true, false, List, map, filter, Option, Some, None, Contains}
use Rattle.ot_base.specs.declared.place.Place.{Place}
use Rattle.ot_base.specs.Places.{same_place}
use Rattle.special_sections.specs.declared.entries.AltEntry.{AltEntry}
use Rattle.alternatives.specs.Originals.{counts}
use Rattle.machine_defs.specs.Program.{in_site}
use Rattle.flow_defs.specs.Sites.{site_of_entry}
use Rattle.object_check.specs.Allowances.{makes_smap_site}

-- where they start
abbrev pub smap_starts : List AltEntry → List Place
smap_starts entries = map (λ a. a.original) (filter makes_smap_site entries)

-- a site starts at a place
abbrev pub is_start : Option Place → Place → Bool
is_start (Some start) place = same_place start place
is_start None place = false

-- a place lies in the sites of exactly those entries whose original starts there
abbrev pub IsSiteStart : List AltEntry → Place → Option Place → Type 0
IsSiteStart entries place start = (a : AltEntry) → Contains entries a → counts a ≡ true → in_site (site_of_entry a) place ≡ is_start start a.original
