-- Lists of places, and of pairs of a place and one where it leads.
use Rattle.std.specs.Prelude.{◌≡◌, ◌<◌, ◌≤◌, ℕ, Bool, false, List, length, map, filter, slice_index_or}
use Rattle.std.specs.List.{list_any}
use Rattle.ot_base.specs.declared.place.Place.{Place}
use Rattle.ot_base.specs.Places.{is_before, same_place}

-- no one is before one in front of it
abbrev pub AreByPlace : List Place → Type 0
AreByPlace places = (i j : ℕ) (d : Place) → i ≤ j → j < length places → is_before (slice_index_or places j d) (slice_index_or places i d) ≡ false

-- so the first places of pairs
abbrev pub AreByFirst : List (Place × Place) → Type 0
AreByFirst pairs = AreByPlace (map (λ e. e.0) pairs)

-- a place is one of these
abbrev pub is_among : List Place → Place → Bool
is_among places place = list_any (same_place place) places

-- another list has the same places
pub record HaveSamePlaces (places others : List Place) : Type 0 where
  pub same : (place : Place) → is_among others place ≡ is_among places place

-- where a place leads by these pairs
abbrev pub targets_of : List (Place × Place) → Place → List Place
targets_of pairs place = map (λ e. e.1) (filter (λ e. same_place e.0 place) pairs)

-- by other pairs each place leads to the same, in the same order
pub record HaveSameTargets (pairs others : List (Place × Place)) : Type 0 where
  pub same : (place : Place) → targets_of others place ≡ targets_of pairs place
