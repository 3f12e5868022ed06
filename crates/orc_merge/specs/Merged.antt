-- The rows of several objects as one table.
use Rattle.std.specs.Prelude.{◌≡◌, ℕ, ◌^◌, ◌<◌, ◌≤◌, List, length, All, IsPermutation}
use Rattle.std.specs.List.Sorted.{IsStableBy}
use Rattle.table_defs.specs.Lookup.{AddressedRow, comes_before}
use Rattle.orc_walk.specs.Rows.{IsInOrder}
use Rattle.orc_bytes.specs.RowBytes.{IsRow}
use Rattle.orc_merge.specs.declared.merged.TheConstants.{MOST_ROWS}
use Rattle.orc_merge.specs.declared.part.Part.{Part}
use Rattle.orc_merge.specs.Parts.{all_rows}

-- These are the merged rows of the objects: all rows at their addresses, by address, at one address those of the undefined kind
-- first, and those that tie by object, and of one object in its order.
pub record IsMergeOf (parts : List Part) (rows : List AddressedRow) : Type 0 where
  pub all : IsPermutation (all_rows parts) rows
  pub in_order : IsInOrder rows
  pub ties : IsStableBy comes_before (all_rows parts) rows

-- a row of a table: bytes hold its address and itself
pub record IsTableRow (row : AddressedRow) : Type 0 where
  pub address : row.address < 2 ^ 64
  pub held : IsRow row.row

-- rows as a table has them: in the order of look-up, and not too many
pub record IsMergedTable (rows : List AddressedRow) : Type 0 where
  pub in_order : IsInOrder rows
  pub each : All IsTableRow rows
  pub few : length rows ≤ MOST_ROWS

-- a table's rows, and how often one was read
pub record MergedTable : Type 0 where
  pub rows : List AddressedRow
  pub reads : ℕ

-- at most one list is the merged rows of some objects
abbrev pub MergeIsDetermined : Type 0
MergeIsDetermined = (parts : List Part) (one other : List AddressedRow) → IsMergeOf parts one → IsMergeOf parts other → one ≡ other
