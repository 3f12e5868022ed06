-- What is told of numbers, in a list.
use Rattle.std.specs.Prelude.{◌≡◌, ◌<◌, ℕ, Bool, false, List, length, slice_index_or}

-- the list tells of each number below n whether it passes a test
pub record AreFlags (test : ℕ → Bool) (n : ℕ) (flags : List Bool) : Type 0 where
  pub long : length flags ≡ n
  pub each : (k : ℕ) → k < n → slice_index_or flags k false ≡ test k
