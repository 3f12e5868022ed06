-- What a look-up costs: how many rows are read.
use Rattle.std.specs.Prelude.{ℕ, ◌+◌, ◌-◌, ◌*◌, ◌/◌, ◌^◌, ◌≤◌, List, length, count_by, ◌==◌, if◌then◌else◌}
use Rattle.table_defs.specs.declared.range.Range.{Range}
use Rattle.table_defs.specs.Placement.{is_inside}
use Rattle.table_defs.specs.Lookup.{AddressedRow}
use Rattle.orc_walk.specs.declared.blocks.TheConstants.{BLOCK_SIZE}

-- the block of an address, by its number; a block's addresses begin at a multiple of its size
abbrev pub block_of : ℕ → ℕ
block_of address = address / BLOCK_SIZE

-- how many rows are placed in a block
abbrev pub rows_in_block : ℕ → List AddressedRow → ℕ
rows_in_block block rows = count_by (λ row. block_of row.address == block) rows

-- Among how many rows a look-up has to choose: those that are placed in the address's block, or all of
-- them where the address is in none of the ranges.
abbrev pub rows_to_search : List Range → List AddressedRow → ℕ → ℕ
rows_to_search ranges rows address = if is_inside ranges address then rows_in_block (block_of address) rows else length rows

-- The number of readings before and after a look-up among so many rows. There are s more, and 2^s is at
-- most four times one more than twice these rows.
pub record ReadsFew (rows before after : ℕ) : Type 0 where
  pub no_fewer : before ≤ after
  pub few : 2 ^ (after - before) ≤ 4 * (2 * rows + 1)
