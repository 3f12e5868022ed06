use Rattle.std.proofs.lemmas.Result.{IfOk-weaker}
use Rattle.flow_defs.specs.Program.{program_of}
use Rattle.object_check.specs.Allowances.{allowances_of}
use Rattle.object_check.specs.Code.{CanHaveRows, IsFound}
use Rattle.object_check.specs.Outcome.{OnAccepted}
use Rattle.object_check.specs.Promises.{KeepsPromises}
use Rattle.object_check.specs.Unwinding.{RowsUnwind}
use Rattle.object_check.proofs.Found.{can_have_rows, is_found, keeps_promises, lent_table, ready, rows_unwind}
use Rattle.object_check.proofs.SmallSites.{small_sites}
use Rattle.object_check.proofs.check.check_code.Goals as goal

pub outcome_of-requires-clause-program : goal.outcome_of-requires-clause-program
outcome_of-requires-clause-program c =
    let o = c.requires.0 in
    let lists = c.requires.1 in
    let code = c.requires.2 in (
      program_of o lists,
      allowances_of o lists c.args.options,
      ready o lists c.args.code.graph.parts c.program_is_one.ensures c.program_is_laid_out.ensures c.plain_points_ascend.ensures c.program_has_functions.ensures code.graph,
      lent_table o lists c.args.options c.args.code.table c.as_ref.result c.as_ref.ensures.value code.allows,
    )

pub outcome_of-requires-clause-sites : goal.outcome_of-requires-clause-sites
outcome_of-requires-clause-sites c = small_sites c.requires.0 c.requires.1 c.args.code.graph.parts c.requires.2.short c.requires.2.graph

pub returns-clause-ok : goal.returns-clause-ok
returns-clause-ok c = λ o lists code.
    IfOk-weaker c.outcome_of.result _ (IsFound o lists c.args.options)
    (λ outcome found. is_found o lists c.args.options c.args.code.counts outcome code.graph.in_order code.counted (found (program_of o lists) (allowances_of o lists c.args.options)
    (ready o lists c.args.code.graph.parts c.program_is_one.ensures c.program_is_laid_out.ensures c.plain_points_ascend.ensures c.program_has_functions.ensures code.graph)
    (lent_table o lists c.args.options c.args.code.table c.as_ref.result c.as_ref.ensures.value code.allows)))
    c.outcome_of.ensures

pub returns-clause-rows : goal.returns-clause-rows
returns-clause-rows c = λ o lists code.
    IfOk-weaker c.outcome_of.result _ (λ outcome. OnAccepted outcome (CanHaveRows o.elf))
    (λ outcome found. can_have_rows o lists c.args.options c.args.code.counts outcome c.rows_are_rows_of.ensures.placed c.rows_are_rows_of.ensures.few c.rows_are_named.ensures c.rows_tell_frames.ensures.ascend c.rows_tell_frames.ensures.frames code.graph.object (found (program_of o lists) (allowances_of o lists c.args.options)
    (ready o lists c.args.code.graph.parts c.program_is_one.ensures c.program_is_laid_out.ensures c.plain_points_ascend.ensures c.program_has_functions.ensures code.graph)
    (lent_table o lists c.args.options c.args.code.table c.as_ref.result c.as_ref.ensures.value code.allows)))
    c.outcome_of.ensures

pub returns-clause-unwinds : goal.returns-clause-unwinds
returns-clause-unwinds c = λ o lists code.
    IfOk-weaker c.outcome_of.result _ (λ outcome. OnAccepted outcome (RowsUnwind o lists))
    (λ outcome found. rows_unwind o lists c.args.options c.args.code.counts outcome c.object_unwinds.ensures code.graph.object code.graph.in_order (found (program_of o lists) (allowances_of o lists c.args.options)
    (ready o lists c.args.code.graph.parts c.program_is_one.ensures c.program_is_laid_out.ensures c.plain_points_ascend.ensures c.program_has_functions.ensures code.graph)
    (lent_table o lists c.args.options c.args.code.table c.as_ref.result c.as_ref.ensures.value code.allows)))
    c.outcome_of.ensures

pub returns-clause-promises : goal.returns-clause-promises
returns-clause-promises c = λ o lists code.
    IfOk-weaker c.outcome_of.result _ (λ outcome. OnAccepted outcome (λ rows. KeepsPromises o lists c.args.options))
    (λ outcome found. keeps_promises o lists c.args.options c.args.code.counts outcome c.calls_have_frames.ensures c.branches_are_safe.ensures c.access_is_kept.ensures c.program_is_one.ensures c.program_has_functions.ensures code.graph.object (found (program_of o lists) (allowances_of o lists c.args.options)
    (ready o lists c.args.code.graph.parts c.program_is_one.ensures c.program_is_laid_out.ensures c.plain_points_ascend.ensures c.program_has_functions.ensures code.graph)
    (lent_table o lists c.args.options c.args.code.table c.as_ref.result c.as_ref.ensures.value code.allows)))
    c.outcome_of.ensures
