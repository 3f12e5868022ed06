use Rattle.std.proofs.Common.{◌≡◌, sym, subst, ap, ◌∙◌}
use Rattle.orc_walk.specs.Rows.{rows_of}
use Rattle.orc_merge.specs.Merged.{IsMergedTable, MergedTable}
use Rattle.command_base.specs.Alike.{HoldsTable}
use Rattle.command_base.specs.Merge.{HasNoTable, no_memory}
use Rattle.command_base.proofs.TableLemmas.{no_table, short_table}
use Rattle.command_base.proofs.merging.table_of.Goals as goal

pub returns-in-Err-clause-none : goal.returns-in-Err-clause-none
returns-in-Err-clause-none c = subst (HasNoTable c.args.parts.now) (sym c.merge_stop.ensures) (no_table c.args.parts.now c.in-Err.fault c.in-Err.ensures.fault)

pub returns-in-Ok-to_bytes-clause-table : goal.returns-in-Ok-to_bytes-clause-table
returns-in-Ok-to_bytes-clause-table c =
    let same : rows_of c.merged.inside.tape.items ≡ c.in-Ok.merged.rows = ap (λ (t : MergedTable). t.rows) (c.merged.view_is ∙ c.to_bytes.ensures.only_reads) in
    let holds : HoldsTable c.in-Ok-to_bytes.table.items c.in-Ok.merged.rows = record { table = subst IsMergedTable same c.merged.invariant; written = c.in-Ok-to_bytes.ensures.bytes } in
    record { fits = c.in-Ok.ensures.fits; rows = c.in-Ok.merged.rows; merged = c.in-Ok.ensures.rows; holds = holds; short = short_table c.in-Ok-to_bytes.table.items c.in-Ok.merged.rows holds }

pub returns-clause-none : goal.returns-clause-none
returns-clause-none c = no_memory
