-- The points of an object that have a SAVE or a RESTORE.
use Rattle.std.specs.Prelude.{◌≡◌, ℕ, ◌<◌, ◌≤◌, ◌||◌, Bool, true, false, List, filter, length, map, Option, Some, None, if◌then◌else◌}
use Rattle.std.specs.List.{range_with_len}
use Rattle.std.specs.List.Sorted.{IsPermutation}
use Rattle.ot_base.specs.declared.place.Place.{Place}
use Rattle.ot_base.specs.Places.{is_before}
use Rattle.state_defs.specs.declared.state.HintState.{HintState}
use Rattle.special_sections.specs.declared.entries.AltEntry.{AltEntry}
use Rattle.special_sections.specs.declared.entries.HintEntry.{HintEntry}
use Rattle.special_sections.specs.HintStates.{hint_at, hint_state}
use Rattle.flow_defs.specs.Coded.{Coded}
use Rattle.alternatives.specs.Points.{address_of_point}
use Rattle.flow_defs.specs.Code.{alternatives_of, point_at, points_of_object}
use Rattle.flow_defs.specs.Hints.{hint_of, is_restore, is_save}
use Rattle.flow_defs.specs.Owners.{owner_of_point}
use Rattle.object_points.specs.Places.{is_among}
use Rattle.object_points.specs.SaveOrder.{AreInOrder}
use Rattle.object_points.specs.declared.saves.SavePoint.{SavePoint}

abbrev pub is_save_at : Coded → ℕ → Bool
is_save_at o n = is_save (hint_of o (point_at o n))

abbrev pub is_restore_at : Coded → ℕ → Bool
is_restore_at o n = is_restore (hint_of o (point_at o n))

abbrev pub numbers_of_points : Coded → List ℕ
numbers_of_points o = range_with_len 0 (length (points_of_object o))

-- the point with a number, as a SAVE
abbrev pub save_at : Coded → ℕ → SavePoint
save_at o n = record {
  owner = owner_of_point o (point_at o n);
  address = address_of_point (alternatives_of o) (point_at o n);
  variant = (point_at o n).variant;
  number = n;
}

-- the SAVEs, by their numbers
abbrev pub saves_of : Coded → List SavePoint
saves_of o = map (save_at o) (filter (is_save_at o) (numbers_of_points o))

-- the numbers of the RESTOREs, ascending
abbrev pub restores_of : Coded → List ℕ
restores_of o = filter (is_restore_at o) (numbers_of_points o)

-- the SAVEs, in the order by which the nearest is found
pub record AreSaves (o : Coded) (saves : List SavePoint) : Type 0 where
  pub all : IsPermutation (saves_of o) saves
  pub ordered : AreInOrder saves

-- ---- as they are found by the places of hints
-- a hint is a SAVE or a RESTORE
abbrev pub is_either : Option HintState → Bool
is_either hint = is_save hint || is_restore hint

-- the place of such a hint
abbrev pub place_of_either : HintEntry → Option Place
place_of_either h = if is_either (hint_state h) then Some h.place else None

-- where the replacement of an entry begins, if its site starts where a RESTORE is
abbrev pub place_of_restored : List HintEntry → AltEntry → Option Place
place_of_restored hints a = if is_restore (hint_at hints a.original) then Some a.replacement else None

-- no point that stands at any other place than these has either
abbrev pub ArePlacesOf : Coded → List Place → Type 0
ArePlacesOf o places = (n : ℕ) → n < length (points_of_object o) → is_among places (point_at o n).place ≡ false → is_either (hint_of o (point_at o n)) ≡ false

-- the SAVEs and the RESTOREs among the points below a number
pub record AreListed (o : Coded) (n : ℕ) (saves : List SavePoint) (restores : List ℕ) : Type 0 where
  pub all_saves : saves ≡ map (save_at o) (filter (is_save_at o) (range_with_len 0 n))
  pub all_restores : restores ≡ filter (is_restore_at o) (range_with_len 0 n)
  pub few : length restores ≤ n

-- of the points from a number on, no one that is before a place has either
abbrev pub HaveNoneBefore : Coded → ℕ → Place → Type 0
HaveNoneBefore o from place = (n : ℕ) → from ≤ n → n < length (points_of_object o) → is_before (point_at o n).place place ≡ true → is_either (hint_of o (point_at o n)) ≡ false

-- nor has one at the place
abbrev pub HaveNoneUpTo : Coded → ℕ → Place → Type 0
HaveNoneUpTo o from place = (n : ℕ) → from ≤ n → n < length (points_of_object o) → is_before place (point_at o n).place ≡ false → is_either (hint_of o (point_at o n)) ≡ false
