-- Bytes from places on, of which it is told whether one of them has a place.
use Rattle.std.specs.Prelude.{◌≡◌, ℕ, ◌+◌, ◌<◌, ◌≤◌, ◌==◌, ◌&&◌, nat_le, Bool, false, List, length, slice_index_or, Option, Some, None}
use Rattle.std.specs.List.{list_any}
use Rattle.ot_base.specs.declared.place.Place.{Place}
use Rattle.ot_base.specs.Places.{is_before, is_within}
use Rattle.symbols_relocs.specs.declared.extents.Extent.{Extent}

-- a place is one of the bytes of an extent, and of one of some
abbrev pub has_byte : Place → Extent → Bool
has_byte place e = is_within e.start e.size place

abbrev pub have_byte : List Extent → Place → Bool
have_byte es place = list_any (has_byte place) es

-- an extent starts at a place or before it in its section, and so does one of some
abbrev pub starts_upto : Place → Extent → Bool
starts_upto place e = (e.start.sec == place.sec) && nat_le e.start.off place.off

abbrev pub have_start : List Extent → Place → Bool
have_start es place = list_any (starts_upto place) es

-- where an extent ends, in its section
abbrev pub end_of : Extent → ℕ
end_of e = e.start.off + e.size

-- no one starts before one in front of it
abbrev pub AreByStart : List Extent → Type 0
AreByStart es = (i j : ℕ) (d : Extent) → i ≤ j → j < length es → is_before (slice_index_or es j d).start (slice_index_or es i d).start ≡ false

-- of the first n of one section, each ends where those in front of it do, or behind
abbrev pub Reach : List Extent → ℕ → Type 0
Reach es n = (i j : ℕ) (d : Extent) → i ≤ j → j < n → (slice_index_or es i d).start.sec ≡ (slice_index_or es j d).start.sec → end_of (slice_index_or es i d) ≤ end_of (slice_index_or es j d)

-- they have the same bytes as others, and start as those do
pub record HaveSameBytes (es others : List Extent) : Type 0 where
  pub bytes : (place : Place) → have_byte others place ≡ have_byte es place
  pub starts : (place : Place) → have_start others place ≡ have_start es place

-- the same of an extent, if there is one
abbrev pub has_byte_if_any : Place → Option Extent → Bool
has_byte_if_any place None = false
has_byte_if_any place (Some e) = has_byte place e

abbrev pub starts_upto_if_any : Place → Option Extent → Bool
starts_upto_if_any place None = false
starts_upto_if_any place (Some e) = starts_upto place e
