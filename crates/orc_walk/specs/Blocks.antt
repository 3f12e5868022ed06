-- Which rows of a table are placed in which block of addresses.
use Rattle.std.specs.Prelude.{◌≡◌, ℕ, ◌+◌, ◌-◌, ◌*◌, ◌^◌, ◌<◌, ◌≤◌, List, map, length, count_by, nat_lt, All, AllPairs, EachIndex, slice_index}
use Rattle.table_defs.specs.declared.range.Range.{Range}
use Rattle.table_defs.specs.Lookup.{AddressedRow}
use Rattle.orc_walk.specs.declared.blocks.TheConstants.{BLOCK_SIZE}
use Rattle.orc_walk.specs.declared.blocks.Blocks.{Blocks}
use Rattle.orc_walk.specs.Cost.{block_of}

-- the first address of a block
abbrev pub beginning_of : ℕ → ℕ
beginning_of block = block * BLOCK_SIZE

-- how many rows have an address below this one
abbrev pub rows_below : ℕ → List AddressedRow → ℕ
rows_below address rows = count_by (λ row. nat_lt row.address address) rows

-- the first and the last block in which a range has an address
abbrev pub first_block : Range → ℕ
first_block range = block_of range.base

abbrev pub last_block : Range → ℕ
last_block range = block_of (range.base + range.size - 1)

-- The numbers of a range's blocks are right for these rows: there is one for each block in which the
-- range has an address, ascending, and one for the block behind them. Each is how many rows have an
-- address below the block's beginning.
pub record HasFirsts (rows : List AddressedRow) (blocks : Blocks) : Type 0 where
  pub number : length blocks.firsts.items ≡ last_block blocks.range - first_block blocks.range + 2
  pub each : EachIndex blocks.firsts.items (λ k. slice_index blocks.firsts.items k ≡ rows_below (beginning_of (first_block blocks.range + k)) rows)

abbrev pub ranges_of : List Blocks → List Range
ranges_of blocks = map (λ b. b.range) blocks

-- Ranges as they are looked up: none is empty, the address right behind each is a 64-bit number, and each
-- ends at or below the beginning of those behind it.
pub record IsAscending (ranges : List Range) : Type 0 where
  pub not_empty : All (λ range. 0 < range.size) ranges
  pub in_memory : All (λ range. range.base + range.size < 2 ^ 64) ranges
  pub apart : AllPairs (λ one other. one.base + one.size ≤ other.base) ranges

-- the blocks fit the rows
pub record Fits (rows : List AddressedRow) (blocks : List Blocks) : Type 0 where
  pub ascending : IsAscending (ranges_of blocks)
  pub firsts : All (HasFirsts rows) blocks
