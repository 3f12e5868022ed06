-- The rows and ranges of several objects.
use Rattle.std.specs.Prelude.{ℕ, ◌+◌, List, [], ◌∷◌, ◌++◌, Option, None, map, flat_map, All}
use Rattle.std.specs.Option.{option_or}
use Rattle.table_defs.specs.declared.range.Range.{Range}
use Rattle.table_defs.specs.Lookup.{AddressedRow, addressed}
use Rattle.orc_walk.specs.Table.{IsWithin}
use Rattle.orc_bytes.specs.RowBytes.{IsRow}
use Rattle.orc_merge.specs.declared.part.Part.{Part}

-- the rows of an object at their addresses
abbrev pub rows_of_part : Part → List AddressedRow
rows_of_part part = addressed part.ranges.items part.rows.items

-- the rows of all objects at their addresses: by object, and in each in its order
abbrev pub all_rows : List Part → List AddressedRow
all_rows parts = flat_map rows_of_part parts

-- a range, and the number of the object that has it
abbrev pub OwnedRange : Type 0
OwnedRange = ℕ × Range

abbrev pub owned_ranges : ℕ → List Range → List OwnedRange
owned_ranges part ranges = map (λ range. (part, range)) ranges

-- the ranges of objects that are numbered from so many on, by object, and of each in its order
abbrev pub ranges_from : ℕ → List Part → List OwnedRange
ranges_from k [] = []
ranges_from k (part ∷ parts) = owned_ranges k part.ranges.items ++ ranges_from (k + 1) parts

abbrev pub all_ranges : List Part → List OwnedRange
all_ranges parts = ranges_from 0 parts

-- no row of an object lies beyond the end of its section's range
abbrev pub AreWithin : Part → Type 0
AreWithin part = All (IsWithin part.ranges.items) part.rows.items

-- six bytes hold each row of an object
abbrev pub AreRows : Part → Type 0
AreRows part = All (λ placed. IsRow placed.row) part.rows.items

-- What is wrong with the first faulty one of objects that are numbered from so many on, by what is wrong with each.
abbrev pub first_in : {Fault : Type 0} → (ℕ → Part → Option Fault) → ℕ → List Part → Option Fault
first_in fault k [] = None
first_in fault k (part ∷ parts) = option_or (fault k part) (first_in fault (k + 1) parts)
