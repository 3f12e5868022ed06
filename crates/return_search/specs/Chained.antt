-- What chains of numbers say of the keys of the numbers.
use Rattle.std.specs.Prelude.{◌≡◌, ◌≢◌, ℕ, ◌<◌, List, Option, Some, None, length, slice_index, slice_index_or, nat_lt, if◌then◌else◌}
use Rattle.return_search.specs.declared.chains.TheConstants.{OPEN, CLOSED}

-- it is the last number below n that has the key, if there is one
abbrev pub IsLastBelow : List (Option ℕ) → ℕ → ℕ → Option ℕ → Type 0
IsLastBelow keys key n None = (j : ℕ) → j < n → slice_index_or keys j None ≢ Some key
IsLastBelow keys key n (Some i) = (i < n) × (slice_index_or keys i None ≡ Some key) × ((j : ℕ) → i < j → j < n → slice_index_or keys j None ≢ Some key)

-- what the link of a number says
abbrev pub linked : ℕ → ℕ → Option ℕ
linked n link = if nat_lt link n then Some link else None

-- no number is as great as this; a head says what a link of this would
abbrev pub no_number : ℕ
no_number = CLOSED

-- the key's head is that of open keys, which no number has
abbrev pub IsOpen : List ℕ → ℕ → Type 0
IsOpen heads key = slice_index heads key ≡ OPEN

-- no more keys are open than before
abbrev pub OpensNone : List ℕ → List ℕ → Type 0
OpensNone before after = (key : ℕ) → IsOpen after key → IsOpen before key

-- The heads by key, and the links by number, where the numbers have these keys.
pub record AreChains (heads : List ℕ) (links : List ℕ) (keys : List (Option ℕ)) : Type 0 where
  pub long : length links ≡ length keys
  pub last : (key : ℕ) → key < length heads → IsLastBelow keys key (length keys) (linked no_number (slice_index heads key))
  pub before : (n key : ℕ) → n < length keys → slice_index_or keys n None ≡ Some key → IsLastBelow keys key n (linked n (slice_index links n))
