-- SAVE points in the order by which the nearest is found.
use Rattle.std.specs.Prelude.{◌≡◌, ℕ, ◌<◌, ◌≤◌, ◌==◌, ◌&&◌, ◌||◌, nat_lt, Bool, true, false, List, length, slice_index_or, Option, Some, None}
use Rattle.std.specs.declared.cmp.Ordering.{Ordering}
use Rattle.std.specs.Option.{option_cmp}
use Rattle.std.specs.Ordering.{nat_cmp, is_lt, ordering_then}
use Rattle.ot_base.specs.declared.place.Place.{Place}
use Rattle.ot_base.specs.Places.{place_cmp}
use Rattle.flow_defs.specs.Tables.{same_owner}
use Rattle.object_points.specs.declared.saves.SavePoint.{SavePoint}

-- by owner, then by place
abbrev pub home_cmp : Option ℕ → Place → Option ℕ → Place → Ordering
home_cmp a p b q = ordering_then (option_cmp nat_cmp a b) (place_cmp p q)

-- at one place the greater variant comes first, and of one variant the greater number
abbrev pub save_cmp : SavePoint → SavePoint → Ordering
save_cmp a b = ordering_then (ordering_then (home_cmp a.owner a.address b.owner b.address) (nat_cmp b.variant a.variant)) (nat_cmp b.number a.number)

-- none comes before one that stands in front of it
abbrev pub AreInOrder : List SavePoint → Type 0
AreInOrder saves = (i j : ℕ) (d : SavePoint) → i ≤ j → j < length saves → is_lt (save_cmp (slice_index_or saves j d) (slice_index_or saves i d)) ≡ false

-- a SAVE has an owner, and runs below an address in the address's section
abbrev pub is_below : Option ℕ → Place → SavePoint → Bool
is_below owner address s = same_owner owner s.owner && ((s.address.sec == address.sec) && nat_lt s.address.off address.off)

-- of two, one is nearer to what they are below
abbrev pub is_nearer_save : SavePoint → SavePoint → Bool
is_nearer_save a b = nat_lt b.address.off a.address.off || ((a.address.off == b.address.off) && nat_lt a.variant b.variant)

-- one of those below an address is the nearest: none is nearer, and it is nearer than each that is of a lower number
pub record IsNearestAt (saves : List SavePoint) (owner : Option ℕ) (address : Place) (n at : ℕ) : Type 0 where
  pub inside : at < length saves
  pub number : (d : SavePoint) → (slice_index_or saves at d).number ≡ n
  pub below : (d : SavePoint) → is_below owner address (slice_index_or saves at d) ≡ true
  pub nearest : (k : ℕ) (d : SavePoint) → k < length saves → is_below owner address (slice_index_or saves k d) ≡ true → is_nearer_save (slice_index_or saves k d) (slice_index_or saves at d) ≡ false
  pub first : (k : ℕ) (d : SavePoint) → k < length saves → is_below owner address (slice_index_or saves k d) ≡ true → (slice_index_or saves k d).number < n → is_nearer_save (slice_index_or saves at d) (slice_index_or saves k d) ≡ true

-- the number of the nearest, or that none is below the address
abbrev pub IsNearest : List SavePoint → Option ℕ → Place → Option ℕ → Type 0
IsNearest saves owner address None = (k : ℕ) (d : SavePoint) → k < length saves → is_below owner address (slice_index_or saves k d) ≡ false
IsNearest saves owner address (Some n) = (at : ℕ) × IsNearestAt saves owner address n at
