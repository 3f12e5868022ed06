-- What `find` gives on the OUT of `merge`.
use Rattle.std.proofs.Common.{◌≡◌, ℕ, cond, List, length, ap, subst, ◌∙◌}
use Rattle.std.specs.Prelude.{Option, Some, Result, Ok, Err}
use Rattle.std.specs.FinMap.{get, insert}
use Rattle.std.proofs.lemmas.Bool.{le-ltb}
use Rattle.ot_base.specs.declared.row.Row.{Row}
use Rattle.ot_files.specs.Content.{Content, reading_of}
use Rattle.ot_files.specs.Output.{appending}
use Rattle.ot_files.specs.declared.access.FileError.{FileError}
use Rattle.ot_files.specs.declared.access.FileError.TheVariants.{TooLong}
use Rattle.elf_objects.specs.declared.TheConstants.{MAX_FILE_BYTES}
use Rattle.orc_walk.specs.Rows.{row_at}
use Rattle.command_base.proofs.DumpLaws.{same_read}
use Rattle.command_base.specs.Alike.{HoldsTable}
use Rattle.command_base.specs.Find.{found_line}
use Rattle.command_base.specs.MergeLaws.{MergedIsFound, MergedIsRead}
use Rattle.command_base.specs.Merge.{IsMerged}
use Rattle.command_base.proofs.Content.{get-insert_same}
use Rattle.command_base.proofs.TableLemmas.{one_table}

held : (layout output : List ℕ) (before after : Content) (merged : IsMerged layout output (Some before) (Some after)) → get after output ≡ Some merged.writes.table
held layout output before after merged =
    let e : ◌≡◌ {A = Option Content} (Some after) (Some (insert before output merged.writes.table)) = merged.writes.written in
    let same : after ≡ insert before output merged.writes.table = cc in
    ap (λ (c : Content). get c output) same ∙ get-insert_same before output merged.writes.table

pub is_read : MergedIsRead
is_read layout output before after merged =
    ap (λ (h : Option (List ℕ)). reading_of h MAX_FILE_BYTES) (held layout output before after merged)
    ∙ ap (λ b. cond {A = Result (List ℕ) FileError} b (Err (TooLong MAX_FILE_BYTES)) (Ok merged.writes.table)) (le-ltb MAX_FILE_BYTES (length merged.writes.table) merged.writes.is.short)

pub is_found : MergedIsFound
is_found layout output address before after told now merged found =
    let same = same_read found.bytes merged.writes.table (found.may ∙ is_read layout output before after merged) in
    let rows = one_table merged.writes.table found.finds.rows merged.writes.is.rows (subst (λ (bytes : List ℕ). HoldsTable bytes found.finds.rows) same found.finds.holds) merged.writes.is.holds in
    found.printed ∙ ap (λ (row : Option Row). appending told (found_line address row)) (found.finds.row ∙ ap (row_at address) rows)
