-- Why the rows of several objects can't be merged.
use Rattle.std.specs.Prelude.{ℕ, List, [], Option, Some, None, option_map, nat_le, sum_by, length, if◌then◌else◌}
use Rattle.std.specs.Option.{option_or}
use Rattle.orc_walk.specs.Faults.{place_fault}
use Rattle.orc_merge.specs.declared.faults.MergeFault.{MergeFault}
use Rattle.orc_merge.specs.declared.faults.MergeFault.TheVariants.{Place, NotEnded, TooMany}
use Rattle.orc_merge.specs.declared.merged.TheConstants.{MOST_ROWS}
use Rattle.orc_merge.specs.declared.part.Part.{Part}
use Rattle.orc_merge.specs.Parts.{all_ranges, first_in}
use Rattle.orc_merge.specs.Ends.{first_unended}
use Rattle.orc_merge.specs.Overlaps.{first_overlap}

-- why the rows of an object can't be placed
abbrev pub unplaced : ℕ → Part → Option MergeFault
unplaced k part = option_map (λ fault. Place k fault) (place_fault part.rows.items part.ranges.items)

-- which of an object's sections isn't ended
abbrev pub unended : ℕ → Part → Option MergeFault
unended k part = option_map (λ range. NotEnded k range.sec) (first_unended part.rows.items part.ranges.items)

-- how many rows the objects have
abbrev pub number_of_rows : List Part → ℕ
number_of_rows parts = sum_by (λ part. length part.rows.items) parts

abbrev pub too_many : List Part → Option MergeFault
too_many parts = if nat_le (number_of_rows parts) MOST_ROWS then None else Some (TooMany (number_of_rows parts))

-- Why objects can't be merged: an object whose rows can't be placed, or else one with a section that isn't ended, or else a range
-- that shares an address with one of an earlier object, or else too many rows.
abbrev pub merge_fault : List Part → Option MergeFault
merge_fault parts = option_or (first_in unplaced 0 parts) (option_or (first_in unended 0 parts) (option_or (first_overlap [] (all_ranges parts)) (too_many parts)))
