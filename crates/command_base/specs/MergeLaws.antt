-- What `find` gives on the OUT of `merge`.
use Rattle.std.specs.Prelude.{◌≡◌, ℕ, List, Option, Some, Ok}
use Rattle.ot_files.specs.Content.{Content, reading}
use Rattle.ot_files.specs.Output.{appending}
use Rattle.elf_objects.specs.declared.TheConstants.{MAX_FILE_BYTES}
use Rattle.orc_walk.specs.Rows.{row_at}
use Rattle.command_base.specs.Find.{IsFound, found_line}
use Rattle.command_base.specs.Merge.{IsMerged}

-- Where `merge` is done, `find` can read OUT, which is the table.
abbrev pub MergedIsRead : Type 0
MergedIsRead = (layout output : List ℕ) (before after : Content) (merged : IsMerged layout output (Some before) (Some after)) → reading after output MAX_FILE_BYTES ≡ Ok merged.writes.table

-- And where `find` is done on this OUT, it has printed the line of what holds at the address in the merged rows.
abbrev pub MergedIsFound : Type 0
MergedIsFound = (layout output : List ℕ) (address : ℕ) (before after : Content) (told told' : Option (List ℕ)) (merged : IsMerged layout output (Some before) (Some after)) → IsFound output address (Some after) told told' → told' ≡ appending told (found_line address (row_at address merged.writes.is.rows))
