-- What is read of a table's bytes.
use Rattle.std.specs.Prelude.{◌≡◌, ℕ, zero, suc, ◌≤◌, List, [], ◌∷◌, ◌++◌, length, None}
use Rattle.table_defs.specs.Lookup.{AddressedRow}
use Rattle.orc_merge.specs.declared.merged.TheConstants.{MOST_ROWS}
use Rattle.orc_merge.specs.TableFaults.{row_count, row_offset, table_row, head_fault}

-- The bytes begin as a table of so many rows, and have its length.
pub record HasHead (bytes : List ℕ) (count : ℕ) : Type 0 where
  pub fits : head_fault bytes ≡ None
  pub count_is : row_count bytes ≡ count
  pub few : count ≤ MOST_ROWS
  pub long : length bytes ≡ row_offset count count

-- the first so many rows that are read, with their addresses
abbrev pub rows_read : List ℕ → ℕ → List AddressedRow
rows_read bytes zero = []
rows_read bytes (suc i) = rows_read bytes i ++ table_row bytes i ∷ []
