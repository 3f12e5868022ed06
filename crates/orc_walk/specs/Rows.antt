-- Rows at their addresses, in the order of look-up.
use Rattle.std.specs.Prelude.{◌≡◌, ℕ, false, List, map, Option, option_map, AllPairs}
use Rattle.ot_base.specs.declared.row.Row.{Row}
use Rattle.table_defs.specs.Lookup.{AddressedRow, at_or_below, comes_before, last_of}

abbrev pub addressed_row : ℕ × Row → AddressedRow
addressed_row item = record { address = item.0; row = item.1 }

-- the items of a tape as rows with the addresses from which on they hold
abbrev pub rows_of : List (ℕ × Row) → List AddressedRow
rows_of items = map addressed_row items

-- the rows stand in the order of look-up: none comes before one ahead of it
abbrev pub IsInOrder : List AddressedRow → Type 0
IsInOrder rows = AllPairs (λ ahead behind. comes_before behind ahead ≡ false) rows

-- the row that holds at an address: the last of those that begin to hold at or below it
abbrev pub row_at : ℕ → List AddressedRow → Option Row
row_at address rows = option_map (λ last. last.row) (last_of (at_or_below address rows))
