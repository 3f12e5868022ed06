-- The rows of a program's ORC table, from the state that each point has.
use Rattle.std.specs.Prelude.{ℕ, Bool, ◌&&◌, List, [], ◌∷◌, ◌++◌, Option, Some, None, ◌==◌, find, filter_map, flat_map, option_map, option_and_then, if◌then◌else◌, is_some}
use Rattle.ot_base.specs.declared.place.Place.{Place}
use Rattle.ot_base.specs.declared.row.Row.{Row}
use Rattle.ot_base.specs.declared.row.PlacedRow.{PlacedRow}
use Rattle.ot_base.specs.Rows.{same_row}
use Rattle.ot_base.specs.Places.{same_place}
use Rattle.state_defs.specs.declared.state.State.{State}
use Rattle.state_defs.specs.Row.{zero_row, row_of}
use Rattle.machine_defs.specs.Program.{Program, TextSection, Site, below, in_site}

-- the states of points, by number
abbrev pub States : Type 0
States = ℕ → Option State

-- the row of a point: of its state, or the one that says that nothing is known
abbrev pub row_or_zero : Option State → Row
row_or_zero None = zero_row
row_or_zero (Some s) = row_of s

-- the plain point at a place
abbrev pub plain_at : Program → Place → Option ℕ
plain_at p place = find (λ q. p.variant q == 0 && same_place (p.place q) place) (below p.count)

-- the site that a place lies in
abbrev pub site_at : Program → Place → Option Site
site_at p place = find (λ site. in_site site place) p.sites

-- the first point that runs at a place and has a state
abbrev pub kept_at : Program → States → Place → Option ℕ
kept_at p states place = find (λ q. is_some (states q) && same_place (p.address q) place) (below p.count)

abbrev pub row_of_point : States → ℕ → Row
row_of_point states q = row_or_zero (states q)

-- whether a site's original code has a state at its start
abbrev pub is_kept_site : Program → States → Site → Bool
is_kept_site p states site = is_some (option_and_then states (plain_at p site.start))

-- the row that begins at a place of a site: where its start is kept, that of a kept point there, in any
-- variant; else one at its start says that nothing is known
abbrev pub row_in_site : Program → States → Site → Place → Option Row
row_in_site p states site place =
    if is_kept_site p states site then option_map (row_of_point states) (kept_at p states place)
    else (if same_place site.start place then Some zero_row else None)

-- the row that begins at a place; outside sites each instruction of the original code begins one
abbrev pub row_by : Program → States → Option Site → Place → Option Row
row_by p states None place = option_map (row_of_point states) (plain_at p place)
row_by p states (Some site) place = row_in_site p states site place

abbrev pub row_at : Program → States → Place → Option Row
row_at p states place = row_by p states (site_at p place) place

abbrev pub placed : Place → Row → PlacedRow
placed place row = record { place = place; row = row }

-- the rows of a section, one for each place at which one begins
abbrev pub place_in : TextSection → ℕ → Place
place_in text off = record { sec = text.sec; off = off }

abbrev pub all_rows : Program → States → TextSection → List PlacedRow
all_rows p states text = filter_map (λ off. option_map (placed (place_in text off)) (row_at p states (place_in text off))) (below text.size)

-- without those that are equal to the one before
abbrev pub without_repeats : Row → List PlacedRow → List PlacedRow
without_repeats before [] = []
without_repeats before (x ∷ xs) =
    if same_row before x.row then without_repeats before xs else x ∷ without_repeats x.row xs

-- with a row at the section's end that says that nothing is known behind it, where there is a row
abbrev pub with_end : TextSection → List PlacedRow → List PlacedRow
with_end text [] = []
with_end text (x ∷ xs) = (x ∷ xs) ++ placed (place_in text text.size) zero_row ∷ []

-- the rows of a section; before its first, nothing is known
abbrev pub section_rows : Program → States → TextSection → List PlacedRow
section_rows p states text = with_end text (without_repeats zero_row (all_rows p states text))

-- the rows of a program, section by section in ascending order
abbrev pub rows_of : Program → States → List PlacedRow
rows_of p states = flat_map (section_rows p states) p.texts
