-- That a look-up in merged rows gives what a look-up in an object's own rows gives.
use Rattle.std.specs.Prelude.{◌≡◌, ℕ, true, List, Option, Some, None, Contains, ◌==◌, if◌then◌else◌}
use Rattle.ot_base.specs.declared.row.Row.{Row}
use Rattle.ot_base.specs.declared.codes.TheConstants.{KIND_UNDEFINED}
use Rattle.table_defs.specs.Placement.{is_inside}
use Rattle.table_defs.specs.Lookup.{AddressedRow, find_row}
use Rattle.orc_walk.specs.Rows.{row_at}
use Rattle.orc_merge.specs.declared.part.Part.{Part}
use Rattle.orc_merge.specs.MergeFaults.{merge_fault}
use Rattle.orc_merge.specs.Merged.{IsMergeOf}

-- what a look-up tells of the stack: nothing, where there is no row or one of the undefined kind
abbrev pub known : Option Row → Option Row
known None = None
known (Some row) = if row.kind == KIND_UNDEFINED then None else Some row

-- At each address inside one of its ranges an object's rows tell what these rows tell.
abbrev pub TellsAlike : Part → List AddressedRow → Type 0
TellsAlike part rows = (address : ℕ) → is_inside part.ranges.items address ≡ true → known (row_at address rows) ≡ known (find_row part.rows.items part.ranges.items address)

-- the merged rows of objects without a fault tell what the rows of each of these tell
abbrev pub MergedTellAlike : Type 0
MergedTellAlike = (parts : List Part) (rows : List AddressedRow) (part : Part) → merge_fault parts ≡ None → IsMergeOf parts rows → Contains parts part → TellsAlike part rows
