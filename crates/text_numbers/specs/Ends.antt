-- Where the texts of a table end.
use Rattle.std.specs.Prelude.{◌≡◌, ◌<◌, ◌≤◌, ◌+◌, ◌*◌, ◌/◌, ◌^◌, ◌==◌, not, ℕ, List, length, drop, slice_index}
use Rattle.std.specs.List.{prefix_len}

-- where the first zero byte stands from an offset on, or where the table ends
abbrev pub end_from : List ℕ → ℕ → ℕ
end_from table at = at + prefix_len (λ c. not (c == 0)) (drop at table)

-- the ends of the texts at the beginnings of blocks of 64 bytes, from one block on
abbrev pub AreEndsFrom : List ℕ → ℕ → List ℕ → Type 0
AreEndsFrom table block ends = (i : ℕ) → block ≤ i → i < length ends → slice_index ends i ≡ end_from table (64 * i)

pub record AreEnds (table ends : List ℕ) : Type 0 where
  pub short : length table < 2 ^ 32
  pub blocks : length ends ≡ length table / 64 + 1
  pub all : AreEndsFrom table 0 ends
