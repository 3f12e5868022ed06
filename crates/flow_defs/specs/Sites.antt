-- The alternatives sites of an object, as a program has them.
use Rattle.std.specs.Prelude.{◌&&◌, not, Bool, false, List, find, filter_map, flat_map, map, length, Option, Some, None, option_map}
use Rattle.ot_base.specs.declared.place.Place.{Place}
use Rattle.ot_base.specs.Places.{same_place}
use Rattle.flow_defs.specs.Coded.{Coded}
use Rattle.special_sections.specs.declared.entries.AltEntry.{AltEntry}
use Rattle.alternatives.specs.declared.texts.SectionText.{SectionText}
use Rattle.alternatives.specs.declared.point.Point.{Point}
use Rattle.alternatives.specs.Originals.{counts}
use Rattle.machine_defs.specs.Program.{Site, below, in_site}
use Rattle.flow_defs.specs.Code.{alternatives_of, texts_of, is_plain}

-- the places of a text, and of all
abbrev pub places_of_text : SectionText → List Place
places_of_text t = map (λ off. record { sec = t.sec; off = off }) (below (length t.text.bytes))

abbrev pub places_of : Coded → List Place
places_of o = flat_map places_of_text (texts_of o)

abbrev pub site_of_entry : AltEntry → Site
site_of_entry a = record { start = a.original; len = a.original_len }

-- an entry counts where its original has a byte, and then it makes a site of it
abbrev pub begins_at : Place → AltEntry → Bool
begins_at place a = counts a && same_place a.original place

-- the site that starts at a place
abbrev pub site_starting_at : Coded → Place → Option Site
site_starting_at o place = option_map site_of_entry (find (begins_at place) (alternatives_of o))

-- the sites, by their starts
unfoldable pub sites_of : Coded → List Site
sites_of o = filter_map (site_starting_at o) (places_of o)

-- the site that holds a place
unfoldable pub site_holding : Coded → Place → Option Site
site_holding o place = find (λ site. in_site site place) (sites_of o)

-- a place is in a site, past its start
abbrev pub is_past_start : Place → Option Site → Bool
is_past_start place None = false
is_past_start place (Some site) = not (same_place site.start place)

-- a point is one of the original code of a site
abbrev pub is_original_of : Site → Point → Bool
is_original_of site point = is_plain point && in_site site point.place

-- a place is in a site, past its start, and the point is none of the site's original code
abbrev pub enters_site : Option Site → Point → Place → Bool
enters_site None point place = false
enters_site (Some site) point place = not (same_place site.start place) && not (is_original_of site point)

-- control would come from a point into a site, past its start
abbrev pub is_into_site : Coded → Point → Place → Bool
is_into_site o point place = enters_site (site_holding o place) point place
