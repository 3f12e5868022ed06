-- Points by their numbers, which are their indexes in the order of points.
use Rattle.std.specs.Prelude.{◌≡◌, ℕ, ◌<◌, ◌≤◌, ◌^◌, true, List, length, slice_get, slice_index_or, Option, Some, None, All, Contains}
use Rattle.std.specs.List.Sorted.{IsStrictlySortedBy}
use Rattle.ot_base.specs.declared.place.Place.{Place}
use Rattle.ot_base.specs.Places.{is_before}
use Rattle.operation_defs.specs.declared.insn.Insn.{Insn}
use Rattle.special_sections.specs.declared.entries.AltEntry.{AltEntry}
use Rattle.alternatives.specs.declared.point.Point.{Point}
use Rattle.alternatives.specs.Points.{address_of_point, point_cmp}

-- the number of a point, or that it isn't among these
abbrev pub IsNumberOf : List Point → Point → Option ℕ → Type 0
IsNumberOf points point None = Contains points point → ⊥
IsNumberOf points point (Some n) = slice_get points n ≡ Some point

-- from one number on, up to another, are the points at a place: those below are before it, the others behind it
pub record IsRunOf (points : List Point) (place : Place) (first end : ℕ) : Type 0 where
  pub order : first ≤ end
  pub within : end ≤ length points
  pub below : (k : ℕ) (d : Point) → k < first → is_before (slice_index_or points k d).place place ≡ true
  pub here : (k : ℕ) (d : Point) → first ≤ k → k < end → (slice_index_or points k d).place ≡ place
  pub above : (k : ℕ) (d : Point) → end ≤ k → k < length points → is_before place (slice_index_or points k d).place ≡ true

-- points, their instructions, and the entries of the object
pub record PointList : Type 0 where
  pub points : List Point
  pub insns : List Insn
  pub entries : List AltEntry

-- what is kept of a point: its variant is one of the entries', and its offsets are low
pub record IsKept (entries : List AltEntry) (p : Point) : Type 0 where
  pub variant : p.variant ≤ length entries
  pub place : p.place.off < 2 ^ 32
  pub address : (address_of_point entries p).off < 2 ^ 32

-- what is kept of all: they ascend, each has its instruction, and a number has 32 bits
pub record AreNumbered (points : List Point) (insns : List Insn) (entries : List AltEntry) : Type 0 where
  pub few : length points < 2 ^ 32
  pub few_entries : length entries ≤ 8388608
  pub ascend : IsStrictlySortedBy point_cmp points
  pub each : length insns ≡ length points
  pub kept : All (IsKept entries) points
