-- Which sections end with a row of zeros.
use Rattle.std.specs.Prelude.{◌≡◌, ℕ, Bool, true, not, ◌&&◌, List, Option, Some, None, option_map, filter_map, find, nat_lt, ◌==◌, if◌then◌else◌}
use Rattle.std.specs.Option.{option_map_or}
use Rattle.std.specs.Ordering.{nat_cmp}
use Rattle.std.specs.BTreeMap.{BTreeMap, get}
use Rattle.ot_base.specs.declared.row.Row.{Row}
use Rattle.ot_base.specs.declared.row.PlacedRow.{PlacedRow}
use Rattle.ot_base.specs.Rows.{zero_row, same_row}
use Rattle.table_defs.specs.declared.range.Range.{Range}
use Rattle.table_defs.specs.Lookup.{AddressedRow, comes_before, last_of}
use Rattle.orc_walk.specs.Rows.{addressed_row}

-- a row at its offset from its section's start
abbrev pub at_offset : PlacedRow → AddressedRow
at_offset placed = record { address = placed.place.off; row = placed.row }

-- the rows of a section, each at its offset
abbrev pub rows_of_section : ℕ → List PlacedRow → List AddressedRow
rows_of_section sec rows = filter_map (λ placed. if placed.place.sec == sec then Some (at_offset placed) else None) rows

-- the last row of a section in the order of look-up
abbrev pub last_row : ℕ → List PlacedRow → Option AddressedRow
last_row sec rows = last_of (rows_of_section sec rows)

-- the row of zeros right behind the last one of so many bytes
abbrev pub ends : ℕ → AddressedRow → Bool
ends size last = nat_lt 0 size && (last.address == size && same_row last.row zero_row)

-- A range's section is ended: it has no row, or its last row is the row of zeros right behind its last byte. A section without a
-- byte has no row.
abbrev pub is_ended : List PlacedRow → Range → Bool
is_ended rows range = option_map_or (ends range.size) (last_row range.sec rows) true

-- the first range whose section isn't ended
abbrev pub first_unended : List PlacedRow → List Range → Option Range
first_unended rows ranges = find (λ range. not (is_ended rows range)) ranges

-- the map has the last row of each section that has one, at its offset
abbrev pub HasLasts : List PlacedRow → BTreeMap ℕ (ℕ × Row) → Type 0
HasLasts rows lasts = (sec : ℕ) → option_map addressed_row (get nat_cmp lasts sec) ≡ last_row sec rows

-- whether a row is the last behind one that was the last so far, if there is one
abbrev pub goes_last : Option AddressedRow → AddressedRow → Bool
goes_last None row = true
goes_last (Some last) row = not (comes_before row last)
