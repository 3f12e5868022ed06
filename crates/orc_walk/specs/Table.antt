-- What a table is.
use Rattle.std.specs.Prelude.{◌≡◌, ℕ, ◌+◌, ◌^◌, ◌<◌, ◌≤◌, List, All, AllPairs, IfSome, IsPermutation, IsTrue, find, ◌==◌}
use Rattle.ot_base.specs.declared.row.PlacedRow.{PlacedRow}
use Rattle.table_defs.specs.declared.range.Range.{Range}
use Rattle.table_defs.specs.Placement.{covers, is_inside}
use Rattle.table_defs.specs.Lookup.{AddressedRow, addressed, find_row}
use Rattle.orc_walk.specs.Rows.{row_at}

-- the rows of a table at their addresses, the ranges of its sections, and how often a row was read
pub record PlacedTable : Type 0 where
  pub rows : List AddressedRow
  pub ranges : List Range
  pub reads : ℕ

-- The table is that of these rows in these ranges: it holds the rows that are placed, each at its
-- address, finds the row that holds at each address, and knows which addresses are in a range.
pub record IsTableOf (rows : List PlacedRow) (ranges : List Range) (table : PlacedTable) : Type 0 where
  pub holds : IsPermutation (addressed ranges rows) table.rows
  pub found : (address : ℕ) → row_at address table.rows ≡ find_row rows ranges address
  pub inside : (address : ℕ) → is_inside table.ranges address ≡ is_inside ranges address

-- no row lies beyond the end of its section's range
abbrev pub IsWithin : List Range → PlacedRow → Type 0
IsWithin ranges placed = IfSome (find (λ range. range.sec == placed.place.sec) ranges) (λ range. placed.place.off ≤ range.size)

-- the ranges lie in memory: the address right behind each is a 64-bit number, and no two share an address
pub record IsLaidOut (ranges : List Range) : Type 0 where
  pub in_memory : All (λ range. range.base + range.size < 2 ^ 64) ranges
  pub apart : AllPairs (λ one other. (address : ℕ) → IsTrue (covers one address) → IsTrue (covers other address) → ⊥) ranges
