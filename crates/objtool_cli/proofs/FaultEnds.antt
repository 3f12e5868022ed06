-- A command that ends with a fault of a file or of the output met one.
use Rattle.std.proofs.Common.{◌≡◌, ℕ, List}
use Rattle.std.specs.Prelude.{◌≢◌, Option}
use Rattle.ot_files.specs.Causes.{Rose}
use Rattle.command_base.specs.declared.status.Status.{Status}
use Rattle.command_base.specs.declared.status.Status.TheVariants.{Done, FileFault, SinkFault}
use Rattle.command_base.specs.declared.status.Status.TheVariants as status
use Rattle.command_base.specs.declared.stop.CommandStop.{CommandStop}
use Rattle.command_base.specs.declared.stop.CommandStop.TheVariants as stop
use Rattle.command_base.specs.Outside.{Outside, Output}
use Rattle.command_base.specs.Stop.{status_of, usage_at}
use Rattle.command_base.proofs.ConcludeLemmas.{concluded_fault, concluded_sink_fault, printed_fault, printed_sink_fault}
use Rattle.objtool_cli.specs.Checked.{IsRefusal}
use Rattle.objtool_cli.specs.Command.{Ends, EndsAs, EndsCheck, Stops, done, ended, faulty, refused, stopped, unfinished, unread, unwritten, warned, without_names}
use Rattle.ot_base.specs.NameLists.{NameLists}
use Rattle.cli_words.specs.declared.options.CheckOptions.{CheckOptions}
use Rattle.cli_words.specs.Grammar.{Command, cfa, cfi, check, demo, dump, entry, explain, find, help, list, merge, show, sites, unwind, version}
use Rattle.code_commands.specs.EntryWords.{entry_options}
use Rattle.objtool_cli.specs.Words.{Meaning}
use Rattle.code_commands.proofs.EntryLaws.{entry_fault, entry_sink_fault}
use Rattle.command_base.proofs.UnwindLaws.{unwind_fault, unwind_sink_fault}
use Rattle.command_base.proofs.DumpLaws.{dump_fault, dump_sink_fault}
use Rattle.command_base.proofs.ListLaws.{list_fault, list_sink_fault}
use Rattle.code_commands.specs.SitesWords.{list_options}
use Rattle.code_commands.proofs.SitesLaws.{sites_fault, sites_sink_fault}
use Rattle.command_base.proofs.CfaLaws.{cfa_fault, cfa_sink_fault}
use Rattle.command_base.proofs.MergeLaws.{merge_file_fault, merge_sink_fault}
use Rattle.command_base.proofs.FindLaws.{find_fault, find_sink_fault}
use Rattle.code_commands.proofs.ShowLaws.{show_fault, show_sink_fault}
use Rattle.objtool_cli.proofs.CfiEnds.{cfi_fault, cfi_sink_fault}
use Rattle.command_base.proofs.DumpLaws.{read_fault}
use Rattle.command_base.proofs.Stops.{names_fault, write_fault}
use Rattle.objtool_cli.proofs.SummaryEnds.{sums_no_file_fault, sums_sink_fault}
use Rattle.objtool_cli.proofs.StatusLemmas.{no_usage_fault, no_memory_fault, done_no_fault, done_no_sink_fault, warnings_no_sink_fault}
use Rattle.elf_objects.specs.declared.TheConstants.{MAX_FILE_BYTES}

refusal_no_fault : (s : CommandStop) (bytes : List ℕ) (lists : NameLists) (options : CheckOptions) → IsRefusal bytes lists options s → status_of s ≢ FileFault
refusal_no_fault (stop.Usage usage) bytes lists options h e = absurd h
refusal_no_fault (stop.PartMissing part file) bytes lists options h e = absurd h
refusal_no_fault (stop.PartTooLong part file limit) bytes lists options h e = absurd h
refusal_no_fault (stop.PartRefused part refusal) bytes lists options h e = absurd h
refusal_no_fault (stop.Missing file) bytes lists options h e = absurd h
refusal_no_fault (stop.TooLong file limit) bytes lists options h e = absurd h
refusal_no_fault (stop.Refused refusal) bytes lists options h e = cc
refusal_no_fault (stop.FileFault file) bytes lists options h e = absurd h
refusal_no_fault stop.NoMemory bytes lists options h e = cc

stop_fault : (s : CommandStop) (input output : List ℕ) (options : CheckOptions) (names : Option (List ℕ)) (before after : Outside) → Stops input output options names before after s → status_of s ≡ FileFault → Rose before.faults after.faults
stop_fault s input output options names before after (unread h kept) e = read_fault MAX_FILE_BYTES s input before after h e
stop_fault s input output options names before after (without_names read may h kept) e = names_fault s names before after h e
stop_fault s input output options names before after (refused read lists is_read h kept) e = absurd (refusal_no_fault s read lists options h e)
stop_fault s input output options names before after (unwritten table accepted h others) e = write_fault s output before after h e

fault_of_check : (input output : List ℕ) (options : CheckOptions) (names : Option (List ℕ)) (before after : Outside) (out out' : Output) (x : Status) → EndsCheck input output options names before after out out' x → x ≡ FileFault → Rose before.faults after.faults
fault_of_check input output options names before after out out' Done (done is same) e = cc
fault_of_check input output options names before after out out' x (warned o warnings is kept t) e = let same = printed_fault status.Warnings _ out out' x t e in cc
fault_of_check input output options names before after out out' x (stopped s h t) e = stop_fault s input output options names before after h (concluded_fault s out out' x t e)

fault_as : (c : Command) (before after : Outside) (out out' : Output) (x : Status) → EndsAs c before after out out' x → x ≡ FileFault → Rose before.faults after.faults
fault_as (check input output options names) before after out out' x h e = fault_of_check input output options names before after out out' x h e
fault_as (dump file) before after out out' x h e = dump_fault file before after out out' x h.0 e
fault_as (unwind file image) before after out out' x h e = unwind_fault file image before after out out' x h.0 e
fault_as (sites input output options map names) before after out out' x h e = sites_fault (list_options options) map input output names before after out out' x h e
fault_as (list file) before after out out' x h e = list_fault file before after out out' x h.0 e
fault_as (entry input rules map names) before after out out' x h e = entry_fault map (entry_options rules) input names before after out out' x h.0 e
fault_as (cfi input output map names) before after out out' x h e = cfi_fault map input output names before after out out' x h e
fault_as (cfa file) before after out out' x h e = cfa_fault file before after out out' x h.0 e
fault_as (merge layout output) before after out out' x h e = merge_file_fault layout output before after out out' x h e
fault_as (find table address) before after out out' x h e = find_fault table address before after out out' x h.0 e
fault_as (show input function map names) before after out out' x h e = show_fault map input names function before after out out' x h.0 e
fault_as (explain topic) before after out out' x h e = absurd (done_no_fault (printed_fault Done _ out out' x h.1 e))
fault_as (demo n) before after out out' x h e = absurd (sums_no_file_fault _ _ out out' x h.1 e)
fault_as help before after out out' x h e = absurd (done_no_fault (printed_fault Done _ out out' x h.1 e))
fault_as version before after out out' x h e = absurd (done_no_fault (printed_fault Done _ out out' x h.1 e))

pub file_fault : (meaning : Meaning) (before after : Outside) (out out' : Output) (x : Status) → Ends meaning before after out out' x → x ≡ FileFault → Rose before.faults after.faults
file_fault meaning before after out out' x (faulty word kind is same t) e = absurd (no_usage_fault (usage_at word kind) (concluded_fault (stop.Usage (usage_at word kind)) out out' x t e))
file_fault meaning before after out out' x (unfinished same t) e = absurd (no_memory_fault (concluded_fault stop.NoMemory out out' x t e))
file_fault meaning before after out out' x (ended command is h) e = fault_as command before after out out' x h e

sink_fault_of_check : (input output : List ℕ) (options : CheckOptions) (names : Option (List ℕ)) (before after : Outside) (out out' : Output) (x : Status) → EndsCheck input output options names before after out out' x → x ≡ SinkFault → Rose out.faults out'.faults
sink_fault_of_check input output options names before after out out' Done (done is same) e = cc
sink_fault_of_check input output options names before after out out' x (warned o warnings is kept t) e = printed_sink_fault status.Warnings _ out out' x t warnings_no_sink_fault e
sink_fault_of_check input output options names before after out out' x (stopped s h t) e = concluded_sink_fault s out out' x t e

sink_fault_as : (c : Command) (before after : Outside) (out out' : Output) (x : Status) → EndsAs c before after out out' x → x ≡ SinkFault → Rose out.faults out'.faults
sink_fault_as (check input output options names) before after out out' x h e = sink_fault_of_check input output options names before after out out' x h e
sink_fault_as (dump file) before after out out' x h e = dump_sink_fault file before after out out' x h.0 e
sink_fault_as (unwind file image) before after out out' x h e = unwind_sink_fault file image before after out out' x h.0 e
sink_fault_as (sites input output options map names) before after out out' x h e = sites_sink_fault (list_options options) map input output names before after out out' x h e
sink_fault_as (list file) before after out out' x h e = list_sink_fault file before after out out' x h.0 e
sink_fault_as (entry input rules map names) before after out out' x h e = entry_sink_fault map (entry_options rules) input names before after out out' x h.0 e
sink_fault_as (cfi input output map names) before after out out' x h e = cfi_sink_fault map input output names before after out out' x h e
sink_fault_as (cfa file) before after out out' x h e = cfa_sink_fault file before after out out' x h.0 e
sink_fault_as (merge layout output) before after out out' x h e = merge_sink_fault layout output before after out out' x h e
sink_fault_as (find table address) before after out out' x h e = find_sink_fault table address before after out out' x h.0 e
sink_fault_as (show input function map names) before after out out' x h e = show_sink_fault map input names function before after out out' x h.0 e
sink_fault_as (explain topic) before after out out' x h e = printed_sink_fault Done _ out out' x h.1 done_no_sink_fault e
sink_fault_as (demo n) before after out out' x h e = sums_sink_fault _ _ out out' x h.1 e
sink_fault_as help before after out out' x h e = printed_sink_fault Done _ out out' x h.1 done_no_sink_fault e
sink_fault_as version before after out out' x h e = printed_sink_fault Done _ out out' x h.1 done_no_sink_fault e

pub sink_fault : (meaning : Meaning) (before after : Outside) (out out' : Output) (x : Status) → Ends meaning before after out out' x → x ≡ SinkFault → Rose out.faults out'.faults
sink_fault meaning before after out out' x (faulty word kind is same t) e = concluded_sink_fault (stop.Usage (usage_at word kind)) out out' x t e
sink_fault meaning before after out out' x (unfinished same t) e = concluded_sink_fault stop.NoMemory out out' x t e
sink_fault meaning before after out out' x (ended command is h) e = sink_fault_as command before after out out' x h e
