-- Where sections begin in memory.
use Rattle.std.specs.Prelude.{◌≡◌, ℕ, List, option_map, find, ◌==◌}
use Rattle.std.specs.Ordering.{nat_cmp}
use Rattle.std.specs.BTreeMap.{BTreeMap, get}
use Rattle.table_defs.specs.declared.range.Range.{Range}

-- the map has the base of each section that has a range, and of no other
abbrev pub HasBases : List Range → BTreeMap ℕ ℕ → Type 0
HasBases ranges bases = (sec : ℕ) → get nat_cmp bases sec ≡ option_map (λ range. range.base) (find (λ range. range.sec == sec) ranges)
