-- Places that are known to lie in no site.
use Rattle.std.specs.Prelude.{◌≡◌, ◌==◌, ◌&&◌, Bool, true, false, nat_le, nat_lt, List, Contains}
use Rattle.ot_base.specs.declared.place.Place.{Place}
use Rattle.program_graph.specs.declared.parts.GraphSite.{GraphSite}
use Rattle.stack_rules.specs.declared.gap.Gap.{Gap}
use Rattle.stack_rules.specs.Sites.{in_own_site}

-- whether a place is among those of a gap
abbrev pub is_in_gap : Gap → Place → Bool
is_in_gap gap place = (place.sec == gap.section) && (nat_le gap.from place.off && nat_lt place.off gap.to)

-- none of the sites holds a place of the gap
abbrev pub IsClear : List GraphSite → Gap → Type 0
IsClear sites gap = (place : Place) → is_in_gap gap place ≡ true → (site : GraphSite) → Contains sites site → in_own_site site place ≡ false
