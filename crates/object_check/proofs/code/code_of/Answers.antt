use Rattle.std.proofs.lemmas.Result.{err_from_is_err_and}
use Rattle.object_check.specs.Code.{no_memory}
use Rattle.object_check.proofs.Faults.{flow_told}
use Rattle.object_check.proofs.code.code_of.Goals as goal

pub returns-in_err-graph-clause-err : goal.returns-in_err-graph-clause-err
returns-in_err-graph-clause-err c =
    let here = flow_told c.args.linked.now c.args.lists.now c.in_err-graph.field-0.0 c.requires.linked c.in_err-graph.ensures.err in
    let p = err_from_is_err_and c.from_residual.result c.from_residual.ensures.1 in
    rw (p.1, p.2) here

pub returns-clause-ok : goal.returns-clause-ok
returns-clause-ok c = record {
  short = c.requires.short;
  graph = record {
    tells = c.in_ok-graph.ensures.tells;
    in_order = record { linked = c.requires.linked; flow = c.in_ok-graph.ensures.right };
    object = c.object_is_in_order.ensures;
  };
  enough = c.in_ok-table.ensures.enough;
  allows = c.in_ok-table.ensures.allows;
  counted = c.count_code-counts.ensures;
}

pub returns-in_err-table-clause-err : goal.returns-in_err-table-clause-err
returns-in_err-table-clause-err c =
    let p = err_from_is_err_and c.from_residual-in_err-table.result c.from_residual-in_err-table.ensures.1 in
    rw (p.1, p.2) no_memory
