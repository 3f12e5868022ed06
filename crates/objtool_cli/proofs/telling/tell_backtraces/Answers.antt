use Rattle.std.proofs.Common.{◌∙◌, refl, sym, ap, length}
use Rattle.flow_defs.specs.Coded.{coded_by}
use Rattle.flow_defs.specs.Program.{program_of}
use Rattle.program_graph.specs.declared.parts.GraphParts.{GraphParts}
use Rattle.command_base.specs.Printing.{silent}
use Rattle.command_base.specs.declared.stop.CommandStop.TheVariants as stop
use Rattle.objtool_cli.specs.Telling.{unread}
use Rattle.objtool_cli.proofs.BacktraceLemmas.{backtraced, warned_of}
use Rattle.objtool_cli.proofs.telling.tell_backtraces.Goals as goal

pub check_stop-requires : goal.check_stop-requires
check_stop-requires g c = (c.args.asked.options.map, c.args.lists.now, c.in-Err.ensures.err)

pub returns-in-Err-clause-told : goal.returns-in-Err-clause-told
returns-in-Err-clause-told g c = unread c.check_stop.result (c.check_stop.ensures c.args.asked.options.map c.args.lists.now c.in-Err.ensures.err) c.conclude.ensures.concluded

pub print_backtraces-requires-clause-points : goal.print_backtraces-requires-clause-points
print_backtraces-requires-clause-points g c = c.in-Ok-states_of.ensures.points ∙ sym (ap (λ (ps : GraphParts). length ps.points.items) c.graph.ensures)

pub print_backtraces-requires-clause-functions : goal.print_backtraces-requires-clause-functions
print_backtraces-requires-clause-functions g c = c.requires.checkable.in_order.linked.before.functions

pub print_backtraces-requires-clause-ascend : goal.print_backtraces-requires-clause-ascend
print_backtraces-requires-clause-ascend g c = c.requires.warned.ascend

pub print_backtraces-requires-clause-warned : goal.print_backtraces-requires-clause-warned
print_backtraces-requires-clause-warned g c =
    let o = coded_by c.args.asked.options.map c.args.object.now in (
      program_of o c.args.lists.now,
      warned_of c.program_is_one.ensures c.program_is_laid_out.ensures o c.args.lists.now c.args.asked.options.rules _ _ _ _ _ c.graph.ensures c.in-Ok.ensures.ok (c.in-Ok-states_of.ensures.kept o c.args.lists.now c.args.asked.options.rules c.in-Ok.ensures.ok) c.requires.warned,
    )

pub returns-in-Ok-states_of-clause-told : goal.returns-in-Ok-states_of-clause-told
returns-in-Ok-states_of-clause-told g c =
    let o = coded_by c.args.asked.options.map c.args.object.now in
    let kept = c.in-Ok-states_of.ensures.kept o c.args.lists.now c.args.asked.options.rules c.in-Ok.ensures.ok in
    backtraced c.args.asked.input.now c.args.asked.options c.args.lists.now c.args.object.now c.args.warnings.now _ _ _ _ c.requires.backtrace kept
    (c.print_backtraces.ensures.printed (program_of o c.args.lists.now)
    (warned_of c.program_is_one.ensures c.program_is_laid_out.ensures o c.args.lists.now c.args.asked.options.rules _ _ _ _ _ c.graph.ensures c.in-Ok.ensures.ok kept c.requires.warned))

pub returns-clause-told : goal.returns-clause-told
returns-clause-told g c = unread stop.NoMemory tt (silent refl refl)
