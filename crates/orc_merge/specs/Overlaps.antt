-- Which ranges of several objects share an address.
use Rattle.std.specs.Prelude.{ℕ, ◌&&◌, nat_lt, List, [], ◌∷◌, ◌++◌, Option, None, option_map, find, map}
use Rattle.std.specs.List.{enumerate_from}
use Rattle.std.specs.Option.{option_or}
use Rattle.table_defs.specs.declared.range.Range.{Range}
use Rattle.orc_walk.specs.Faults.{overlap}
use Rattle.orc_merge.specs.declared.faults.MergeFault.{MergeFault}
use Rattle.orc_merge.specs.declared.faults.MergeFault.TheVariants.{Overlaps}
use Rattle.orc_merge.specs.Parts.{OwnedRange}

-- the fault of two ranges that share an address
abbrev pub overlapped : OwnedRange → OwnedRange → MergeFault
overlapped owned other = Overlaps owned.0 owned.1.sec other.0 other.1.sec

-- the first of these ranges that is of an earlier object, and with which a range shares an address
abbrev pub overlap_fault : List OwnedRange → OwnedRange → Option MergeFault
overlap_fault earlier owned = option_map (overlapped owned) (find (λ other. nat_lt other.0 owned.0 && overlap other.1 owned.1) earlier)

-- the first range that shares an address with one of an earlier object, behind earlier ranges
abbrev pub first_overlap : List OwnedRange → List OwnedRange → Option MergeFault
first_overlap earlier [] = None
first_overlap earlier (owned ∷ ranges) = option_or (overlap_fault earlier owned) (first_overlap (earlier ++ owned ∷ []) ranges)

-- these ranges, each with its place in the list as its section's number
abbrev pub numbered : ℕ → List OwnedRange → List Range
numbered k ranges = map (λ entry. record { sec = entry.0; base = entry.1.1.base; size = entry.1.1.size }) (enumerate_from k ranges)
