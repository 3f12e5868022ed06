-- Records that points have in common, and the numbers by which they are found.
use Rattle.std.specs.Prelude.{◌≡◌, ◌+◌, ◌<◌, ◌≤◌, ℕ, List, Some, length, slice_get, slice_index}

-- a record has a number in a list, where others keep the numbers that they had before
pub record IsNumbered {X : Type 0} (before after : List X) (x : X) (number : ℕ) : Type 0 where
  pub here : slice_get after number ≡ Some x
  pub kept : (k : ℕ) (y : X) → slice_get before k ≡ Some y → slice_get after k ≡ Some y
  pub short : length after ≤ length before + 1

-- each of the first n points has a record by its number, of which this holds
pub record HaveNumbers {X : Type 0} (P : ℕ → X → Type 0) (records : List X) (numbers : List ℕ) (n : ℕ) : Type 0 where
  pub long : length numbers ≡ n
  pub each : (q : ℕ) → q < n → (x : X) × (slice_get records (slice_index numbers q) ≡ Some x) × P q x

-- and where there are few: at most one for each of the points, and one more
pub record AreNumbered {X : Type 0} (P : ℕ → X → Type 0) (records : List X) (numbers : List ℕ) (n : ℕ) : Type 0 where
  pub have : HaveNumbers P records numbers n
  pub some : 0 < length records
  pub short : length records ≤ n + 1
