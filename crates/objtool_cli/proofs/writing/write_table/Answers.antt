use Rattle.std.proofs.Common.{refl}
use Rattle.objtool_cli.specs.Writing.{crowded}
use Rattle.objtool_cli.proofs.CheckLemmas.{table_cut_off, table_written}
use Rattle.objtool_cli.proofs.writing.write_table.Goals as goal

pub returns-in-Ok-clause-written : goal.returns-in-Ok-clause-written
returns-in-Ok-clause-written g c = table_written c.write_file.result c.args.object.now c.args.rows.now c.args.output.now c.in-Ok.table.items c.as_slice.result.now _ _ c.in-Ok.ensures.table c.as_slice.ensures.value c.write_file.ensures.written

pub returns-in-Ok-clause-stopped : goal.returns-in-Ok-clause-stopped
returns-in-Ok-clause-stopped g c = table_cut_off c.write_file.result c.args.object.now c.args.rows.now c.args.output.now c.in-Ok.table.items _ _ c.in-Ok.ensures.table c.write_file.ensures.stopped c.write_file.ensures.others

pub returns-in-Err-clause-stopped : goal.returns-in-Err-clause-stopped
returns-in-Err-clause-stopped g c = crowded c.in-Err.ensures.crowded refl
