-- Ranges that are laid out in memory, by their bases.
use Rattle.std.specs.Prelude.{◌≡◌, ℕ, ◌+◌, ◌^◌, ◌<◌, ◌≤◌, List, Some, All, Contains}
use Rattle.std.specs.Ordering.{nat_cmp}
use Rattle.std.specs.BTreeMap.{BTreeMap, get}
use Rattle.table_defs.specs.declared.range.Range.{Range}
use Rattle.orc_walk.specs.Table.{IsLaidOut}

-- a range of these that isn't empty and has this base
pub record IsRangeAt (ranges : List Range) (base : ℕ) (range : Range) : Type 0 where
  pub begins : range.base ≡ base
  pub not_empty : 0 < range.size
  pub in_memory : range.base + range.size < 2 ^ 64
  pub among : Contains ranges range

-- The ranges lie in memory, and the map has each of them that isn't empty under its base, and no other.
-- Each ends at or below the base of the next.
pub record IsLaid (ranges : List Range) (laid : BTreeMap ℕ Range) : Type 0 where
  pub laid_out : IsLaidOut ranges
  pub kept : All (λ range. 0 < range.size → get nat_cmp laid range.base ≡ Some range) ranges
  pub of_these : (base : ℕ) (range : Range) → get nat_cmp laid base ≡ Some range → IsRangeAt ranges base range
  pub apart : (base next : ℕ) (range other : Range) → get nat_cmp laid base ≡ Some range → get nat_cmp laid next ≡ Some other → base < next → range.base + range.size ≤ next
