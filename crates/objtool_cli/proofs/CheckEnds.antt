-- What follows from how `check` ends: what it prints, and what it has written.
use Rattle.std.proofs.Common.{◌≡◌, ℕ, List, refl, ap}
use Rattle.std.specs.Prelude.{Option, Ok, true, false}
use Rattle.command_base.specs.declared.status.Status.{Status}
use Rattle.command_base.specs.declared.status.Status.TheVariants.{Done, Warnings, FileFault, SinkFault, NoMemory}
use Rattle.command_base.specs.declared.status.Status.TheVariants as status
use Rattle.command_base.specs.declared.stop.CommandStop.TheVariants as stop
use Rattle.command_base.specs.Outside.{Outside, Output}
use Rattle.command_base.specs.Printing.{Prints, fails, fault_stays, runs_out, whole}
use Rattle.command_base.specs.Stop.{usage_at}
use Rattle.command_base.proofs.ConcludeLemmas.{concluded_no_warnings, concluded_not_done, printed_done, printed_warnings}
use Rattle.objtool_cli.specs.Command.{Ends, EndsAs, EndsCheck, PrintsWarnings, done, ended, faulty, of_cfi, of_check, of_demo, of_entry, stopped, unfinished, warned}
use Rattle.ot_files.specs.Output.{appending}
use Rattle.objtool_cli.specs.Promises.{InKeepsPromises}
use Rattle.objtool_cli.specs.Unwinding.{OutUnwinds}
use Rattle.cli_words.specs.Grammar.{Command, cfa, cfi, check, demo, dump, entry, explain, find, help, list, merge, show, sites, unwind, version}
use Rattle.cli_words.specs.declared.options.CheckOptions.{CheckOptions}
use Rattle.code_commands.specs.EntryWords.{entry_options}
use Rattle.objtool_cli.specs.Words.{Meaning, is_silent}
use Rattle.code_commands.proofs.EntryLaws.{entry_silent, entry_warned}
use Rattle.command_base.proofs.UnwindLaws.{unwind_no_warnings}
use Rattle.command_base.proofs.DumpLaws.{dump_no_warnings}
use Rattle.objtool_cli.proofs.SummaryEnds.{sums_warned}
use Rattle.command_base.proofs.ListLaws.{list_no_warnings}
use Rattle.code_commands.specs.SitesWords.{list_options}
use Rattle.code_commands.proofs.SitesLaws.{sites_no_warnings, sites_silent}
use Rattle.command_base.proofs.CfaLaws.{cfa_no_warnings}
use Rattle.objtool_cli.proofs.CfiLaws.{cfi_silent, cfi_warned}
use Rattle.command_base.proofs.MergeLaws.{merge_no_warnings, merged_silently}
use Rattle.command_base.proofs.FindLaws.{find_no_warnings}
use Rattle.code_commands.proofs.ShowLaws.{show_no_warnings}
use Rattle.objtool_cli.proofs.SameCommand.{done_as, not_both}
use Rattle.objtool_cli.proofs.StatusLemmas.{warnings_not_done, done_no_warnings}

silent_check : (input output : List ℕ) (options : CheckOptions) (names : Option (List ℕ)) (before after : Outside) (out out' : Output) (x : Status) → EndsCheck input output options names before after out out' x → x ≡ Done → out'.written ≡ out.written
silent_check input output options names before after out out' Done (done is same) e = ap (λ (o : Output). o.written) same
silent_check input output options names before after out out' x (warned o warnings is kept t) e = absurd (warnings_not_done (printed_done status.Warnings _ out out' x t e))
silent_check input output options names before after out out' x (stopped s h t) e = absurd (concluded_not_done s out out' x t e)

silent_as : (c : Command) (before after : Outside) (out out' : Output) (x : Status) → EndsAs c before after out out' x → is_silent c ≡ true → x ≡ Done → out'.written ≡ out.written
silent_as (check input output options names) before after out out' x h writes e = silent_check input output options names before after out out' x h e
silent_as (sites input output options map names) before after out out' x h writes e = sites_silent (list_options options) map input output names before after out out' x h e
silent_as (entry input rules map names) before after out out' x h writes e = entry_silent map (entry_options rules) input names before after out out' x h.0 e
silent_as (cfi input output map names) before after out out' x h writes e = cfi_silent map input output names before after out out' x h e
silent_as (merge layout output) before after out out' x h writes e = merged_silently layout output before after out out' x h e
silent_as (dump file) before after out out' x h writes e = absurd (not_both false writes refl)
silent_as (unwind file image) before after out out' x h writes e = absurd (not_both false writes refl)
silent_as (list file) before after out out' x h writes e = absurd (not_both false writes refl)
silent_as (cfa file) before after out out' x h writes e = absurd (not_both false writes refl)
silent_as (find table address) before after out out' x h writes e = absurd (not_both false writes refl)
silent_as (show input function map names) before after out out' x h writes e = absurd (not_both false writes refl)
silent_as (explain topic) before after out out' x h writes e = absurd (not_both false writes refl)
silent_as (demo n) before after out out' x h writes e = absurd (not_both false writes refl)
silent_as help before after out out' x h writes e = absurd (not_both false writes refl)
silent_as version before after out out' x h writes e = absurd (not_both false writes refl)

pub tells_nothing : (meaning : Meaning) (before after : Outside) (out out' : Output) (x : Status) (c : Command) → Ends meaning before after out out' x → meaning ≡ Ok c → is_silent c ≡ true → x ≡ Done → out'.written ≡ out.written
tells_nothing meaning before after out out' x c ends n writes e = silent_as c before after out out' x (done_as c meaning before after out out' x ends e n) writes e

whole_text : (text : List ℕ) (out out' : Output) (x : Status) → Prints status.Warnings text out out' x → x ≡ Warnings → out'.written ≡ appending out.written text
whole_text text out out' x (whole at all) e = all
whole_text text out out' FileFault (fault_stays prefix rose at) e = cc
whole_text text out out' SinkFault (fails prefix rose other) e = cc
whole_text text out out' NoMemory (runs_out prefix) e = cc

check_warned : (meaning : Meaning) (input output : List ℕ) (options : CheckOptions) (names : Option (List ℕ)) (before after : Outside) (out out' : Output) (x : Status) → meaning ≡ Ok (check input output options names) → EndsCheck input output options names before after out out' x → x ≡ Warnings → PrintsWarnings meaning before.content out.written out'.written
check_warned meaning input output options names before after out out' Done asked (done is same) e = absurd (done_no_warnings e)
check_warned meaning input output options names before after out out' x asked (warned o warnings is kept t) e =
    of_check input output options names o warnings asked is (whole_text _ out out' x t e)
check_warned meaning input output options names before after out out' x asked (stopped s h t) e = absurd (concluded_no_warnings s out out' x t e)

warned_as : (c : Command) (meaning : Meaning) (before after : Outside) (out out' : Output) (x : Status) → meaning ≡ Ok c → EndsAs c before after out out' x → x ≡ Warnings → PrintsWarnings meaning before.content out.written out'.written
warned_as (check input output options names) meaning before after out out' x is h e = check_warned meaning input output options names before after out out' x is h e
warned_as (dump file) meaning before after out out' x is h e = absurd (dump_no_warnings file before after out out' x h.0 e)
warned_as (unwind file image) meaning before after out out' x is h e = absurd (unwind_no_warnings file image before after out out' x h.0 e)
warned_as (sites input output options map names) meaning before after out out' x is h e = absurd (sites_no_warnings (list_options options) map input output names before after out out' x h e)
warned_as (list file) meaning before after out out' x is h e = absurd (list_no_warnings file before after out out' x h.0 e)
warned_as (entry input rules map names) meaning before after out out' x is h e = of_entry input rules map names is (entry_warned map (entry_options rules) input names before after out out' x h.0 e)
warned_as (cfi input output map names) meaning before after out out' x is h e = of_cfi input output map names is (cfi_warned map input output names before after out out' x h e)
warned_as (cfa file) meaning before after out out' x is h e = absurd (cfa_no_warnings file before after out out' x h.0 e)
warned_as (merge layout output) meaning before after out out' x is h e = absurd (merge_no_warnings layout output before after out out' x h e)
warned_as (find table address) meaning before after out out' x is h e = absurd (find_no_warnings table address before after out out' x h.0 e)
warned_as (show input function map names) meaning before after out out' x is h e = absurd (show_no_warnings map input names function before after out out' x h.0 e)
warned_as (explain topic) meaning before after out out' x is h e = absurd (done_no_warnings (printed_warnings Done _ out out' x h.1 e))
warned_as (demo n) meaning before after out out' x is h e = of_demo n is (sums_warned _ _ out out' x h.1 e)
warned_as help meaning before after out out' x is h e = absurd (done_no_warnings (printed_warnings Done _ out out' x h.1 e))
warned_as version meaning before after out out' x is h e = absurd (done_no_warnings (printed_warnings Done _ out out' x h.1 e))

pub warnings_printed : (meaning : Meaning) (before after : Outside) (out out' : Output) (x : Status) → Ends meaning before after out out' x → x ≡ Warnings → PrintsWarnings meaning before.content out.written out'.written
warnings_printed meaning before after out out' x (faulty word kind is same t) e = absurd (concluded_no_warnings (stop.Usage (usage_at word kind)) out out' x t e)
warnings_printed meaning before after out out' x (unfinished same t) e = absurd (concluded_no_warnings stop.NoMemory out out' x t e)
warnings_printed meaning before after out out' x (ended command is h) e = warned_as command meaning before after out out' x is h e

check_unwound : (input output : List ℕ) (options : CheckOptions) (names : Option (List ℕ)) (before after : Outside) (out out' : Output) (x : Status) → EndsCheck input output options names before after out out' x → x ≡ Done → OutUnwinds options.map input output names before.content after.content
check_unwound input output options names before after out out' Done (done is same) e = is.unwinds
check_unwound input output options names before after out out' x (warned o warnings is kept t) e = absurd (warnings_not_done (printed_done status.Warnings _ out out' x t e))
check_unwound input output options names before after out out' x (stopped s h t) e = absurd (concluded_not_done s out out' x t e)

pub out_unwinds : (meaning : Meaning) (before after : Outside) (out out' : Output) (x : Status) (input output : List ℕ) (options : CheckOptions) (names : Option (List ℕ)) → Ends meaning before after out out' x → x ≡ Done → meaning ≡ Ok (check input output options names) → OutUnwinds options.map input output names before.content after.content
out_unwinds meaning before after out out' x input output options names ends e n = check_unwound input output options names before after out out' x (done_as (check input output options names) meaning before after out out' x ends e n) e

check_promised : (input output : List ℕ) (options : CheckOptions) (names : Option (List ℕ)) (before after : Outside) (out out' : Output) (x : Status) → EndsCheck input output options names before after out out' x → x ≡ Done → InKeepsPromises input options names before.content
check_promised input output options names before after out out' Done (done is same) e = is.keeps
check_promised input output options names before after out out' x (warned o warnings is kept t) e = absurd (warnings_not_done (printed_done status.Warnings _ out out' x t e))
check_promised input output options names before after out out' x (stopped s h t) e = absurd (concluded_not_done s out out' x t e)

pub promises_kept : (meaning : Meaning) (before after : Outside) (out out' : Output) (x : Status) (input output : List ℕ) (options : CheckOptions) (names : Option (List ℕ)) → Ends meaning before after out out' x → x ≡ Done → meaning ≡ Ok (check input output options names) → InKeepsPromises input options names before.content
promises_kept meaning before after out out' x input output options names ends e n = check_promised input output options names before after out out' x (done_as (check input output options names) meaning before after out out' x ends e n) e
