-- Flags of points, of which most are the same.
use Rattle.std.specs.Prelude.{◌≡◌, ◌<◌, ◌≤◌, ℕ, Bool, List, length, slice_index_or}

-- The first n of so many flags are told, and the rest are the usual ones.
pub record AreFlagged (holds : ℕ → Bool) (usual : Bool) (flags : List Bool) (count n : ℕ) : Type 0 where
  pub long : length flags ≡ count
  pub told : (q : ℕ) (d : Bool) → q < n → slice_index_or flags q d ≡ holds q
  pub rest : (q : ℕ) (d : Bool) → n ≤ q → q < count → slice_index_or flags q d ≡ usual
