-- What a tape is.
use Rattle.std.specs.Prelude.{ℕ, ◌+◌, ◌-◌, ◌^◌, List, ◌==◌, if◌then◌else◌}
use Rattle.ot_base.specs.declared.row.Row.{Row}

-- the items of a tape, each a row with its address, and how often one was read
pub record CountedItems : Type 0 where
  pub items : List (ℕ × Row)
  pub reads : ℕ

-- the count after one reading more; it stays once it is the last number of 64 bits
abbrev pub one_more : ℕ → ℕ
one_more reads = if reads == 2 ^ 64 - 1 then reads else reads + 1
