-- Which SAVE each RESTORE means.
use Rattle.std.specs.Prelude.{◌≡◌, ℕ, ◌<◌, ◌≤◌, ◌^◌, List, filter, is_some, length, map, slice_index_or, Option, option_and_then, option_map}
use Rattle.std.specs.List.{filter_map}
use Rattle.std.specs.List.Sorted.{IsNonDecreasingBy, IsPermutation}
use Rattle.flow_defs.specs.Coded.{Coded}
use Rattle.alternatives.specs.declared.point.Point.{Point}
use Rattle.flow_defs.specs.Code.{number_of, point_at}
use Rattle.flow_defs.specs.Hints.{nearest, save_of, saves_before}
use Rattle.object_points.specs.Hinted.{numbers_of_points, restores_of}
use Rattle.object_points.specs.declared.meanings.Meaning.{Meaning}

-- the number of the nearest SAVE before a point
unfoldable pub nearest_save : Coded → Point → Option ℕ
nearest_save o point = option_and_then (number_of o) (nearest o (saves_before o point))

-- what a RESTORE means, by its number
abbrev pub meaning_of : Coded → ℕ → Option Meaning
meaning_of o r = option_map (λ s. record { save = s; restore = r }) (nearest_save o (point_at o r))

-- what all of them mean, by their numbers
abbrev pub meanings_of : Coded → List Meaning
meanings_of o = filter_map (meaning_of o) (restores_of o)

-- the RESTOREs that mean a SAVE, by their numbers
abbrev pub restores_with_save : Coded → List ℕ
restores_with_save o = filter (λ r. is_some (save_of o (point_at o r))) (numbers_of_points o)

-- the meanings in the order of the SAVEs that are meant, and the RESTOREs in that order
pub record AreMeanings (o : Coded) (meanings : List Meaning) (restores : List ℕ) : Type 0 where
  pub all : IsPermutation (meanings_of o) meanings
  pub ordered : IsNonDecreasingBy (λ (m : Meaning). m.save) meanings
  pub few : length meanings < 2 ^ 32
  pub each : restores ≡ map (λ (m : Meaning). m.restore) meanings

-- From one index on, up to another, are the meanings that are a SAVE: those below are lower SAVEs, the others higher
-- ones.
pub record IsRunOf (meanings : List Meaning) (save from to : ℕ) : Type 0 where
  pub order : from ≤ to
  pub within : to ≤ length meanings
  pub below : (k : ℕ) (d : Meaning) → k < from → (slice_index_or meanings k d).save < save
  pub here : (k : ℕ) (d : Meaning) → from ≤ k → k < to → (slice_index_or meanings k d).save ≡ save
  pub above : (k : ℕ) (d : Meaning) → to ≤ k → k < length meanings → save < (slice_index_or meanings k d).save
