use Rattle.objtool_cli.proofs.SummaryEnds.{only_sink_fault, sums_done, sums_no_file_fault, sums_refused, sums_sink_fault, sums_warned}
use Rattle.objtool_cli.proofs.SummaryLemmas.{sums_broken, sums_passed, sums_uncheckable}
use Rattle.objtool_cli.proofs.UsageLemmas.{sums_no_usage}
use Rattle.objtool_cli.proofs.summaries.summary.Goals as goal

pub returns-clause-done : goal.returns-clause-done
returns-clause-done g c e = sums_done _ _ _ _ _ c.sum_up.ensures.ends e

pub returns-clause-passes : goal.returns-clause-passes
returns-clause-passes g c counts rows passes = sums_passed c.one_outcome.ensures _ _ counts rows _ _ _ c.sum_up.ensures.ends passes

pub returns-clause-warned : goal.returns-clause-warned
returns-clause-warned g c e = sums_warned _ _ _ _ _ c.sum_up.ensures.ends e

pub returns-clause-warns : goal.returns-clause-warns
returns-clause-warns g c breaks = sums_broken c.one_outcome.ensures _ _ _ _ _ c.sum_up.ensures.ends breaks

pub returns-clause-refused : goal.returns-clause-refused
returns-clause-refused g c e = sums_refused _ _ _ _ _ c.sum_up.ensures.ends e

pub returns-clause-refuses : goal.returns-clause-refuses
returns-clause-refuses g c refusal why = sums_uncheckable c.one_outcome.ensures _ _ refusal _ _ _ c.sum_up.ensures.ends why

pub returns-clause-no_usage : goal.returns-clause-no_usage
returns-clause-no_usage g c = sums_no_usage _ _ _ _ _ c.sum_up.ensures.ends

pub returns-clause-no_file_fault : goal.returns-clause-no_file_fault
returns-clause-no_file_fault g c = sums_no_file_fault _ _ _ _ _ c.sum_up.ensures.ends

pub returns-clause-sink_fault : goal.returns-clause-sink_fault
returns-clause-sink_fault g c e = sums_sink_fault _ _ _ _ _ c.sum_up.ensures.ends e

pub returns-clause-output_failed : goal.returns-clause-output_failed
returns-clause-output_failed g c risen = only_sink_fault _ _ _ _ _ c.sum_up.ensures.ends (c.sum_up.ensures.output_failed risen)
