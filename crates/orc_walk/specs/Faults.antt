-- Why rows can't be placed in ranges.
use Rattle.std.specs.Prelude.{ℕ, ◌+◌, ◌^◌, Bool, not, ◌&&◌, List, [], ◌∷◌, ◌++◌, Option, Some, None, option_map, find, max, nat_le, ◌==◌, if◌then◌else◌}
use Rattle.std.specs.List.{list_any}
use Rattle.std.specs.Option.{option_or}
use Rattle.ot_base.specs.declared.row.PlacedRow.{PlacedRow}
use Rattle.table_defs.specs.declared.range.Range.{Range}
use Rattle.table_defs.specs.Placement.{covers}
use Rattle.orc_walk.specs.declared.faults.PlaceWhy.{PlaceWhy}
use Rattle.orc_walk.specs.declared.faults.PlaceWhy.TheVariants.{Missing, Wraps, Overlaps}
use Rattle.orc_walk.specs.declared.faults.PlaceFault.{PlaceFault}
use Rattle.orc_walk.specs.declared.faults.PlaceFault.TheVariants.{At}

-- two ranges share an address: then the greater of their bases is one
abbrev pub overlap : Range → Range → Bool
overlap one other = covers one (max one.base other.base) && covers other (max one.base other.base)

-- what is wrong with a range behind earlier ones: the address right behind it has more than 64 bits, or
-- else it shares an address with an earlier one, the first of which is told
abbrev pub range_fault : List Range → Range → Option PlaceWhy
range_fault earlier range = if nat_le (2 ^ 64) (range.base + range.size) then Some Wraps else option_map (λ other. Overlaps other.sec) (find (λ other. overlap other range) earlier)

-- the first faulty range, behind earlier ones
abbrev pub first_faulty : List Range → List Range → Option PlaceFault
first_faulty earlier [] = None
first_faulty earlier (range ∷ ranges) = option_or (option_map (λ why. At range.sec why) (range_fault earlier range)) (first_faulty (earlier ++ range ∷ []) ranges)

-- whether a section has a range
abbrev pub is_placed : List Range → ℕ → Bool
is_placed ranges sec = list_any (λ range. range.sec == sec) ranges

-- the first row whose section has no range
abbrev pub first_missing : List Range → List PlacedRow → Option PlaceFault
first_missing ranges rows = option_map (λ placed. At placed.place.sec Missing) (find (λ placed. not (is_placed ranges placed.place.sec)) rows)

-- what is wrong with a placement of rows: a row without a range, or else a range
abbrev pub place_fault : List PlacedRow → List Range → Option PlaceFault
place_fault rows ranges = option_or (first_missing ranges rows) (first_faulty [] ranges)
