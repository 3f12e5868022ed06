-- How the points of a program are numbered.
use Rattle.std.specs.Prelude.{◌≡◌, ◌⊎◌, ℕ, ◌<◌}
use Rattle.ot_base.specs.declared.place.Place.{Place}
use Rattle.machine_defs.specs.Program.{Program, IsPoint}

-- one place comes before another: in a section before, or in the same one at a lower offset
abbrev pub ComesBefore : Place → Place → Type 0
ComesBefore one other = (one.sec < other.sec) ⊎ ((one.sec ≡ other.sec) × (one.off < other.off))

-- plain points are numbered in the order of their places
abbrev pub PlainPointsAscend : Program → Type 0
PlainPointsAscend p = (q r : ℕ) → IsPoint p q → IsPoint p r → p.variant q ≡ 0 → p.variant r ≡ 0 → q < r → ComesBefore (p.place q) (p.place r)
