use Rattle.std.proofs.Common.{◌++◌, ap, ◌∙◌, arith}
use Rattle.std.proofs.lemmas.List.{length-map}
use Rattle.orc_walk.specs.Rows.{addressed_row, rows_of}
use Rattle.orc_merge.specs.Merged.{MergedTable}
use Rattle.orc_merge.specs.TableBytes.{row_section, table_bytes}
use Rattle.orc_merge.proofs.Writing.{whole_table}
use Rattle.orc_merge.proofs.merged.Merged.to_bytes.Goals as goal

pub returns-clause-bytes : goal.returns-clause-bytes
returns-clause-bytes c =
    let items = c.self.inside.tape.items in
    whole_table (rows_of items) c.in_ok-bytes.bytes.items _ _ c.add_addresses.new.bytes.items c.add_rows.new.bytes.items c.from.result
    c.in_ok-bytes.ensures.items
    c.in_ok-extend_from_slice.ensures.items
    c.in_ok-extend_from_slice-2.ensures.items
    c.to_le_bytes.ensures
    (omega (arith, c.from.ensures, c.len-count.ensures, length-map items addressed_row))
    c.in_ok-add_addresses.ensures.bytes
    (c.in_ok-add_rows.ensures.bytes ∙ ap (λ rows. c.add_addresses.new.bytes.items ++ row_section (rows_of rows)) c.in_ok-add_addresses.ensures.only_reads)
    ∙ ap (λ (m : MergedTable). table_bytes m.rows) c.self.view_is
