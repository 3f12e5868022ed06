use Rattle.std.proofs.Common.{◌≡◌, sym, subst, ap, ◌∙◌}
use Rattle.orc_walk.specs.Rows.{rows_of}
use Rattle.orc_merge.specs.Merged.{IsMergedTable, MergedTable}
use Rattle.command_base.specs.Find.{HoldsNoTable, printed, stopped}
use Rattle.command_base.proofs.FindLaws.{no_table}
use Rattle.command_base.proofs.finding.find_bytes.Goals as goal

pub returns-in-Ok-clause-ends : goal.returns-in-Ok-clause-ends
returns-in-Ok-clause-ends g c =
    let same : rows_of c.table.inside.tape.items ≡ c.in-Ok.table.rows = ap (λ (t : MergedTable). t.rows) (c.table.view_is ∙ c.find-row.ensures.only_reads) in
    printed c.find-row.result (record { rows = c.in-Ok.table.rows; holds = record { table = subst IsMergedTable same c.table.invariant; written = sym c.in-Ok.ensures.rows }; row = c.find-row.ensures.found }) c.print_found.ensures.printed

pub returns-in-Err-clause-ends : goal.returns-in-Err-clause-ends
returns-in-Err-clause-ends g c =
    stopped c.table_stop.result (subst (HoldsNoTable c.args.bytes.now) (sym c.table_stop.ensures) (no_table c.args.bytes.now c.in-Err.fault c.in-Err.ensures.fault)) c.conclude.ensures.concluded
