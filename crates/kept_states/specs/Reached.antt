-- The points that are reached, in the order in which they were, and their states.
use Rattle.std.specs.Prelude.{◌≡◌, ℕ, ◌^◌, ◌<◌, ◌≤◌, ◌⊎◌, ◌&&◌, Bool, List, Option, None, All, if◌then◌else◌, nat_le, nat_lt, length, map, slice_get, slice_index}
use Rattle.state_defs.specs.declared.state.State.{State}
use Rattle.kept_states.specs.declared.done.Batch.{Batch}
use Rattle.kept_states.specs.LevelStates.{count_some}

-- the place of a point that isn't reached
abbrev pub nowhere : ℕ
nowhere = 4294967295

-- the state at a place where it is one of the first few, and where it isn't
abbrev pub kept_at : ℕ → List State → ℕ → Option State
kept_at kept states place = if nat_lt place kept then slice_get states place else None

abbrev pub offered_at : ℕ → List State → ℕ → Option State
offered_at kept states place = if nat_lt place kept then None else slice_get states place

-- whether a place is one of the settled points, which stand behind those of level 0
abbrev pub settled_at : ℕ → ℕ → ℕ → Bool
settled_at first settled place = nat_le first place && nat_lt place settled

-- Where the points in front begin and end, which of level 0 are in the batch, and how many are of level 0, settled or of level 0,
-- and kept. Those in front are those of level 0 in the batch, or the last ones that are kept.
pub record AreOrdered (front_from front_to : ℕ) (batch : Batch) (first settled kept : ℕ) : Type 0 where
  pub front_in : front_from ≤ front_to
  pub front_kept : front_to ≤ kept
  pub batch_kept : batch.to ≤ kept
  pub begins : front_from < settled → (batch.from ≡ front_from) × (batch.to ≡ front_to) × (kept ≡ settled)
  pub goes_on : settled ≤ front_from → front_to ≡ kept
  pub first_in : first ≤ settled
  pub settled_in : settled ≤ kept

-- Each point that is reached has its place there, and each place has a state and the place of a point. The first ones are kept.
pub record AreReached (places reached : List ℕ) (states : List State) (kept : ℕ) : Type 0 where
  pub few : length places < 2 ^ 32
  pub long : length states ≡ length reached
  pub ordered : kept ≤ length reached
  pub points : All (λ q. q < length places) reached
  pub placed : (q : ℕ) → q < length places → (slice_index places q ≡ nowhere) ⊎ ((slice_index places q < length reached) × (slice_index reached (slice_index places q) ≡ q))
  pub back : (i : ℕ) → i < length reached → slice_index places (slice_index reached i) ≡ i
  pub kept_count : count_some (map (kept_at kept states) places) ≡ kept
  pub count : count_some (map (slice_get states) places) ≡ length reached
