use Rattle.objtool_cli.proofs.CheckEnds.{out_unwinds, promises_kept, tells_nothing, warnings_printed}
use Rattle.objtool_cli.proofs.ContentEnds.{changes, unchanged}
use Rattle.objtool_cli.proofs.DemoEnds.{demo_sums_up}
use Rattle.objtool_cli.proofs.FaultEnds.{file_fault, sink_fault}
use Rattle.objtool_cli.proofs.ReadBackEnds.{cfa_answered, cfi_answered, cfi_broken, dump_answered, entry_answered, entry_broken, find_answered, list_answered, merge_answered, rows_dumped, show_answered, sites_answered, unwind_answered, walk_printed}
use Rattle.objtool_cli.proofs.SameCommand.{done_as}
use Rattle.cli_words.specs.Grammar.{cfa, cfi, entry, find, list, merge, show, sites}
use Rattle.code_commands.specs.EntryWords.{entry_options}
use Rattle.code_commands.proofs.EntryLaws.{entry_keeps}
use Rattle.command_base.proofs.ListLaws.{listed_file}
use Rattle.code_commands.specs.SitesWords.{list_options}
use Rattle.code_commands.proofs.SitesLaws.{sites_listed}
use Rattle.command_base.proofs.CfaLaws.{file_told}
use Rattle.objtool_cli.proofs.CfiLaws.{frames_told}
use Rattle.command_base.proofs.FindLaws.{found_row}
use Rattle.code_commands.proofs.ShowLaws.{show_printed}
use Rattle.command_base.proofs.MergeLaws.{finds_alike, merged, walks_alike}
use Rattle.objtool_cli.proofs.RefusalEnds.{refusal_answered, refusal_told}
use Rattle.objtool_cli.proofs.TextEnds.{text_shown}
use Rattle.objtool_cli.proofs.UsageEnds.{usage_answered}
use Rattle.objtool_cli.proofs.AcceptsLemmas.{all_warned, left}
use Rattle.objtool_cli.proofs.UsageLemmas.{only_faulty}
use Rattle.objtool_cli.proofs.command.run.Goals as goal

pub returns-clause-file_fault : goal.returns-clause-file_fault
returns-clause-file_fault g c e = file_fault _ _ _ _ _ _ c.dispatch.ensures.ends e

pub returns-clause-sink_fault : goal.returns-clause-sink_fault
returns-clause-sink_fault g c e = sink_fault _ _ _ _ _ _ c.dispatch.ensures.ends e

pub returns-clause-unchanged : goal.returns-clause-unchanged
returns-clause-unchanged g c d f m = unchanged _ _ _ _ _ _ c.dispatch.ensures.ends d f m

pub returns-clause-changes : goal.returns-clause-changes
returns-clause-changes g c = changes _ _ _ _ _ _ c.dispatch.ensures.ends

pub returns-clause-silent : goal.returns-clause-silent
returns-clause-silent g c command n writes e = tells_nothing _ _ _ _ _ _ command c.dispatch.ensures.ends n writes e

pub returns-clause-warned : goal.returns-clause-warned
returns-clause-warned g c e = warnings_printed _ _ _ _ _ _ c.dispatch.ensures.ends e

pub returns-clause-warns : goal.returns-clause-warns
returns-clause-warns g c input output options names read lists held n told is named breaks = all_warned c.one_outcome.ensures _ input output options names read lists held _ _ _ _ _ n told is named breaks c.dispatch.ensures.ends

pub returns-clause-unwinds : goal.returns-clause-unwinds
returns-clause-unwinds g c input output options names e n = out_unwinds _ _ _ _ _ _ input output options names c.dispatch.ensures.ends e n

pub returns-clause-promises : goal.returns-clause-promises
returns-clause-promises g c input output options names e n = promises_kept _ _ _ _ _ _ input output options names c.dispatch.ensures.ends e n

pub returns-clause-accepts : goal.returns-clause-accepts
returns-clause-accepts g c input output options names read table lists held n told is named accepts = left c.one_outcome.ensures _ input output options names read table lists held _ _ _ _ _ n told is named accepts c.dispatch.ensures.ends

pub returns-clause-dumps : goal.returns-clause-dumps
returns-clause-dumps g c file e n = rows_dumped _ _ _ _ _ _ file c.dispatch.ensures.ends e n

pub returns-clause-dump_accepts : goal.returns-clause-dump_accepts
returns-clause-dump_accepts g c file bytes object rows held n told is holds = dump_answered _ _ _ _ _ _ file bytes object rows held c.dispatch.ensures.ends n told is holds

pub returns-clause-unwound : goal.returns-clause-unwound
returns-clause-unwound g c file image e n = walk_printed _ _ _ _ _ _ file image c.dispatch.ensures.ends e n

pub returns-clause-unwind_accepts : goal.returns-clause-unwind_accepts
returns-clause-unwind_accepts g c file image bytes text stack object rows held n told is said placed = unwind_answered _ _ _ _ _ _ file image bytes text stack object rows held c.dispatch.ensures.ends n told is said placed

pub returns-clause-faulty : goal.returns-clause-faulty
returns-clause-faulty g c h = usage_answered _ _ _ _ _ _ c.dispatch.ensures.ends h

pub returns-clause-only_faulty : goal.returns-clause-only_faulty
returns-clause-only_faulty g c e = only_faulty _ _ _ _ _ _ c.dispatch.ensures.ends e

pub returns-clause-sums_up : goal.returns-clause-sums_up
returns-clause-sums_up g c n asked = demo_sums_up _ _ _ _ _ _ n c.dispatch.ensures.ends asked

pub returns-clause-shows : goal.returns-clause-shows
returns-clause-shows g c command asked told = text_shown _ _ _ _ _ _ command c.dispatch.ensures.ends asked told

pub returns-clause-refused : goal.returns-clause-refused
returns-clause-refused g c held e told = refusal_told _ held _ _ _ _ _ c.dispatch.ensures.ends e told

pub returns-clause-refuses : goal.returns-clause-refuses
returns-clause-refuses g c held stop told why = refusal_answered c.one_outcome.ensures _ held _ _ _ _ _ stop c.dispatch.ensures.ends told why

pub returns-clause-lists_sites : goal.returns-clause-lists_sites
returns-clause-lists_sites g c input output options map names e n = sites_listed (list_options options) map input output names _ _ _ _ _ (done_as (sites input output options map names) _ _ _ _ _ _ c.dispatch.ensures.ends e n) e

pub returns-clause-sites_accepts : goal.returns-clause-sites_accepts
returns-clause-sites_accepts g c input output options map names read object lists held n told is named obj gets = sites_answered c.one_outcome.ensures _ _ _ _ _ _ input output options map names read object lists held c.dispatch.ensures.ends n told is named obj gets

pub returns-clause-listed : goal.returns-clause-listed
returns-clause-listed g c file e n = listed_file file _ _ _ _ _ (done_as (list file) _ _ _ _ _ _ c.dispatch.ensures.ends e n).0 e

pub returns-clause-list_accepts : goal.returns-clause-list_accepts
returns-clause-list_accepts g c file bytes object lists held n told is holds = list_answered _ _ _ _ _ _ file bytes object lists held c.dispatch.ensures.ends n told is holds

pub returns-clause-merged : goal.returns-clause-merged
returns-clause-merged g c layout output e n = merged layout output _ _ _ _ _ (done_as (merge layout output) _ _ _ _ _ _ c.dispatch.ensures.ends e n) e

pub returns-clause-merge_finds : goal.returns-clause-merge_finds
returns-clause-merge_finds g c layout output before after said parts table e n told left is are holds = finds_alike layout output table _ _ before after said parts (merged layout output _ _ _ _ _ (done_as (merge layout output) _ _ _ _ _ _ c.dispatch.ensures.ends e n) e) told left is are holds

pub returns-clause-merge_walks : goal.returns-clause-merge_walks
returns-clause-merge_walks g c layout output before after said parts table e n told left is are holds = walks_alike layout output table _ _ before after said parts (merged layout output _ _ _ _ _ (done_as (merge layout output) _ _ _ _ _ _ c.dispatch.ensures.ends e n) e) told left is are holds

pub returns-clause-merge_accepts : goal.returns-clause-merge_accepts
returns-clause-merge_accepts g c layout output held said parts n told is are fits = merge_answered _ _ _ _ _ _ layout output held said parts c.dispatch.ensures.ends n told is are fits

pub returns-clause-found : goal.returns-clause-found
returns-clause-found g c table address e n = found_row table address _ _ _ _ _ (done_as (find table address) _ _ _ _ _ _ c.dispatch.ensures.ends e n).0 e

pub returns-clause-find_accepts : goal.returns-clause-find_accepts
returns-clause-find_accepts g c table address bytes rows held n told is merged holds = find_answered _ _ _ _ _ _ table address bytes rows held c.dispatch.ensures.ends n told is merged holds

pub returns-clause-frames : goal.returns-clause-frames
returns-clause-frames g c input output map names e n = frames_told map input output names _ _ _ _ _ (done_as (cfi input output map names) _ _ _ _ _ _ c.dispatch.ensures.ends e n) e

pub returns-clause-cfi_accepts : goal.returns-clause-cfi_accepts
returns-clause-cfi_accepts g c input output map names read object rows lists held n told is named gets = cfi_answered c.one_outcome.ensures _ _ _ _ _ _ input output map names read object rows lists held c.dispatch.ensures.ends n told is named gets

pub returns-clause-cfi_warns : goal.returns-clause-cfi_warns
returns-clause-cfi_warns g c input output map names read lists held n told is named breaks = cfi_broken c.one_outcome.ensures _ _ _ _ _ _ input output map names read lists held c.dispatch.ensures.ends n told is named breaks

pub returns-clause-told : goal.returns-clause-told
returns-clause-told g c file e n = file_told file _ _ _ _ _ (done_as (cfa file) _ _ _ _ _ _ c.dispatch.ensures.ends e n).0 e

pub returns-clause-cfa_accepts : goal.returns-clause-cfa_accepts
returns-clause-cfa_accepts g c file bytes object rules held n told is says = cfa_answered _ _ _ _ _ _ file bytes object rules held c.dispatch.ensures.ends n told is says

pub returns-clause-shown : goal.returns-clause-shown
returns-clause-shown g c input function map names e n = show_printed map input names function _ _ _ _ _ (done_as (show input function map names) _ _ _ _ _ _ c.dispatch.ensures.ends e n).0 e

pub returns-clause-show_accepts : goal.returns-clause-show_accepts
returns-clause-show_accepts g c input function map names read object lists held n told is named of order code = show_answered c.one_outcome.ensures _ _ _ _ _ _ input function map names read object lists held c.dispatch.ensures.ends n told is named of order code

pub returns-clause-keeps : goal.returns-clause-keeps
returns-clause-keeps g c input rules map names e n = entry_keeps map (entry_options rules) input names _ _ _ _ _ (done_as (entry input rules map names) _ _ _ _ _ _ c.dispatch.ensures.ends e n).0 e

pub returns-clause-entry_accepts : goal.returns-clause-entry_accepts
returns-clause-entry_accepts g c input rules map names read object lists held n told is named of order clean = entry_answered c.one_outcome.ensures _ _ _ _ _ _ input rules map names read object lists held c.dispatch.ensures.ends n told is named of order clean

pub returns-clause-entry_warns : goal.returns-clause-entry_warns
returns-clause-entry_warns g c input rules map names read object lists held n told is named of order breaks = entry_broken c.one_outcome.ensures _ _ _ _ _ _ input rules map names read object lists held c.dispatch.ensures.ends n told is named of order breaks
