-- The points by which calls name others, while they are listed.
use Rattle.std.specs.Prelude.{◌≡◌, ◌++◌, ◌<◌, ℕ, List, Option, Some, None, length, map, slice_index_or}
use Rattle.ot_base.specs.declared.place.Place.{Place}
use Rattle.special_sections.specs.declared.entries.AltEntry.{AltEntry}
use Rattle.symbols_relocs.specs.declared.function.Function.{Function}
use Rattle.flow_defs.specs.Coded.{Coded}
use Rattle.flow_defs.specs.Code.{point_at}
use Rattle.control_flow.specs.Listed.{count_of}
use Rattle.control_flow.specs.NamedAt.{IsNamedAt}

-- where functions start, and the originals of alternatives
abbrev pub starts_of : List Function → List AltEntry → List Place
starts_of functions entries = map (λ f. f.start) functions ++ map (λ a. a.original) entries

abbrev pub nowhere : Place
nowhere = record { sec = 0; off = 0 }

abbrev pub start_at : List Place → ℕ → Place
start_at starts k = slice_index_or starts k nowhere

-- each number that is listed for a point is one by which calls name it
pub record AreRight (o : Coded) (entered : List (Option ℕ)) : Type 0 where
  pub long : length entered ≡ count_of o
  pub right : (q entry : ℕ) → slice_index_or entered q None ≡ Some entry → IsNamedAt o entry q

-- and those of the plain points at the first n of these places are listed
pub record AreListedTo (o : Coded) (starts : List Place) (entered : List (Option ℕ)) (n : ℕ) : Type 0 where
  pub are : AreRight o entered
  pub listed : (k q entry : ℕ) → k < n → IsNamedAt o entry q → (point_at o entry).place ≡ start_at starts k → slice_index_or entered q None ≡ Some entry
