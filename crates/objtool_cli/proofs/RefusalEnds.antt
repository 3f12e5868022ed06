-- A command ends with a refusal exactly where a step refuses it, and prints the line of one that does.
use Rattle.std.proofs.Common.{◌≡◌, ℕ, List, subst, inl, inr}
use Rattle.std.specs.Prelude.{◌≢◌, Option, Some, Ok}
use Rattle.ot_files.specs.Content.{Content, reading}
use Rattle.cli_words.specs.Grammar.{Command, cfa, cfi, check, demo, dump, entry, explain, find, help, list, merge, show, sites, unwind, version}
use Rattle.cli_words.specs.declared.options.CheckOptions.{CheckOptions}
use Rattle.elf_objects.specs.declared.TheConstants.{MAX_FILE_BYTES}
use Rattle.x86_decode.specs.Decoding.{OneOutcome}
use Rattle.command_base.specs.declared.reading.TheConstants.{MAX_IMAGE_BYTES}
use Rattle.command_base.specs.declared.status.Status.{Status}
use Rattle.command_base.specs.declared.status.Status.TheVariants.{Done, Warnings, Refused, Usage}
use Rattle.command_base.specs.declared.stop.CommandStop.{CommandStop}
use Rattle.command_base.specs.declared.stop.CommandStop.TheVariants as stop
use Rattle.command_base.specs.Dump.{Dumps, EndsDump, HoldsRows, IsDumped, printed, read as file_read, stopped as dump_stopped, unread as file_unread}
use Rattle.command_base.specs.Outside.{Outside, Output}
use Rattle.command_base.specs.Stop.{status_of, usage_at}
use Rattle.command_base.specs.Unwind.{EndsUnwind, IsPlaced, IsUnwound, Unwinds, no_file, no_text, read as files_read, stopped as unwind_stopped, walked}
use Rattle.command_base.proofs.ConcludeLemmas.{concluded_no_memory, concluded_no_warnings, concluded_not_done, printed_done}
use Rattle.command_base.proofs.DumpLaws.{dump_no_warnings, dumped as file_dumped, no_rows_excluded}
use Rattle.command_base.proofs.Stops.{done_not_refused, is_read, left, memory_not_refused, not_memory, of_stop, one_text, readable, unreadable, whole_line, whole_text, write_not_refused}
use Rattle.command_base.proofs.UnwindLaws.{unwind_no_warnings, unwound as files_unwound, walk_excluded}
use Rattle.objtool_cli.specs.Checked.{IsRefusal}
use Rattle.objtool_cli.specs.Command.{Ends, EndsAs, EndsCheck, Stops, done, ended, faulty, refused, stopped, unfinished, unread, unwritten, warned, without_names}
use Rattle.command_base.specs.Refusing.{IsRefusedOrFails, Tells}
use Rattle.command_base.specs.Inputs.{input_refused, input_unread}
use Rattle.objtool_cli.specs.Refused.{IsRefused, RefusesAs, RefusesCheck, RefusesDemo, RefusesDump, RefusesUnwind, TellsRefusal, image_unread, object_unread, tables_unread, without_rows, without_walk}
use Rattle.objtool_cli.specs.Summary.{IsOrFails, SumsUp, demo_bytes, demo_title}
use Rattle.code_commands.specs.EntryWords.{entry_options}
use Rattle.objtool_cli.specs.Words.{Meaning}
use Rattle.code_commands.proofs.EntryLaws.{entry_refused, entry_told}
use Rattle.command_base.proofs.ListLaws.{list_refused, list_told}
use Rattle.code_commands.specs.SitesWords.{list_options}
use Rattle.code_commands.proofs.SitesLaws.{sites_refused, sites_told}
use Rattle.command_base.proofs.CfaLaws.{cfa_refused, cfa_told}
use Rattle.objtool_cli.proofs.CfiLaws.{cfi_refused, cfi_told}
use Rattle.command_base.proofs.MergeLaws.{merge_refused, merge_told}
use Rattle.command_base.proofs.FindLaws.{find_refused, find_told}
use Rattle.code_commands.proofs.ShowLaws.{show_refused, show_told}
use Rattle.objtool_cli.proofs.AcceptsLemmas.{accepted_unrefused, broken_unrefused, refused_memory, warns_breaks}
use Rattle.command_base.proofs.InputLemmas.{named_in, names_refuse, unrefused}
use Rattle.objtool_cli.proofs.SameCommand.{ends_as}
use Rattle.objtool_cli.proofs.StatusLemmas.{done_no_warnings, warnings_not_done}
use Rattle.objtool_cli.proofs.SummaryEnds.{sums_refused}
use Rattle.objtool_cli.proofs.SummaryLemmas.{sums_uncheckable}
use Rattle.objtool_cli.proofs.UsageLemmas.{check_ended, file_dumped as dump_no_usage, files_unwound as unwind_no_usage}

-- ---- statuses

warnings_not_refused : Warnings ≢ Refused
warnings_not_refused e = cc

usage_not_refused : Usage ≢ Refused
usage_not_refused e = cc

-- ---- each step that refuses

check_refuses : (s : CommandStop) (input output : List ℕ) (options : CheckOptions) (names : Option (List ℕ)) (held : Content) (before after : Outside) → before.content ≡ Some held → Stops input output options names before after s → status_of s ≡ Refused → RefusesCheck input options names held s
check_refuses s input output options names held before after c (unread h kept) e = input_unread (unreadable MAX_FILE_BYTES s input held before after c h e)
check_refuses s input output options names held before after c (without_names read may h kept) e =
    names_refuse (λ b l t. IsRefusal b l options t) s input names held read before after c may h e
check_refuses s input output options names held before after c (refused read lists is h kept) e =
    input_refused read lists (is_read MAX_FILE_BYTES input read held before.content c is.may) (named_in names held before.content lists c is.named) h (not_memory s e)
check_refuses s input output options names held before after c (unwritten table accepted h others) e = absurd (write_not_refused s output before after h e)

-- ---- the line that is printed

check_told : (input output : List ℕ) (options : CheckOptions) (names : Option (List ℕ)) (held : Content) (before after : Outside) (out out' : Output) (x : Status) → before.content ≡ Some held → EndsCheck input output options names before after out out' x → x ≡ Refused → Tells (RefusesCheck input options names held) out.written out'.written
check_told input output options names held before after out out' Done c (done is same) e = absurd (done_not_refused e)
check_told input output options names held before after out out' x c (warned o warnings is kept t) e = absurd (warnings_not_refused (whole_text Warnings _ out out' x t e).0)
check_told input output options names held before after out out' x c (stopped s h t) e =
    of_stop (RefusesCheck input options names held) s out out' x t e (λ at. check_refuses s input output options names held before after c h at)

rows_refuse : (file bytes : List ℕ) (held : Content) (out out' : Output) (x : Status) → reading held file MAX_FILE_BYTES ≡ Ok bytes → Dumps bytes out out' x → x ≡ Refused → Tells (RefusesDump file held) out.written out'.written
rows_refuse file bytes held out out' x is (printed o rows holds t) e = absurd (done_not_refused (whole_text Done _ out out' x t e).0)
rows_refuse file bytes held out out' x is (dump_stopped s h t) e = of_stop (RefusesDump file held) s out out' x t e (λ at. without_rows bytes is h (not_memory s at))

dump_told : (file : List ℕ) (held : Content) (before after : Outside) (out out' : Output) (x : Status) → before.content ≡ Some held → EndsDump file before after out out' x → x ≡ Refused → Tells (RefusesDump file held) out.written out'.written
dump_told file held before after out out' x c (file_unread s h t) e = of_stop (RefusesDump file held) s out out' x t e (λ at. object_unread (unreadable MAX_FILE_BYTES s file held before after c h at))
dump_told file held before after out out' x c (file_read bytes may h) e = rows_refuse file bytes held out out' x (is_read MAX_FILE_BYTES file bytes held before.content c may) h e

walk_refuses : (file image bytes text : List ℕ) (held : Content) (out out' : Output) (x : Status) → reading held file MAX_FILE_BYTES ≡ Ok bytes → reading held image MAX_IMAGE_BYTES ≡ Ok text → Unwinds bytes text out out' x → x ≡ Refused → Tells (RefusesUnwind file image held) out.written out'.written
walk_refuses file image bytes text held out out' x is said (walked stack o rows frames s placed walks t) e = absurd (done_not_refused (whole_text Done _ out out' x t e).0)
walk_refuses file image bytes text held out out' x is said (unwind_stopped s h t) e = of_stop (RefusesUnwind file image held) s out out' x t e (λ at. without_walk bytes text is said h (not_memory s at))

unwind_told : (file image : List ℕ) (held : Content) (before after : Outside) (out out' : Output) (x : Status) → before.content ≡ Some held → EndsUnwind file image before after out out' x → x ≡ Refused → Tells (RefusesUnwind file image held) out.written out'.written
unwind_told file image held before after out out' x c (no_file s h t) e = of_stop (RefusesUnwind file image held) s out out' x t e (λ at. tables_unread (unreadable MAX_FILE_BYTES s file held before after c h at))
unwind_told file image held before after out out' x c (no_text bytes s may h t) e =
    of_stop (RefusesUnwind file image held) s out out' x t e (λ at. image_unread bytes (is_read MAX_FILE_BYTES file bytes held before.content c may) (unreadable MAX_IMAGE_BYTES s image held before after c h at))
unwind_told file image held before after out out' x c (files_read bytes text may may_text h) e =
    walk_refuses file image bytes text held out out' x (is_read MAX_FILE_BYTES file bytes held before.content c may) (is_read MAX_IMAGE_BYTES image text held before.content c may_text) h e

demo_told : (n : ℕ) (out out' : Output) (x : Status) → SumsUp (demo_title n) (demo_bytes n) out out' x → x ≡ Refused → Tells (RefusesDemo n) out.written out'.written
demo_told n out out' x h e = let told = sums_refused _ _ out out' x h e in record { stop = stop.Refused told.refusal; is = told.uncheckable; printed = told.printed }

by : (meaning : Meaning) (c : Command) (held : Content) (before after : Option (List ℕ)) → meaning ≡ Ok c → Tells (RefusesAs c held) before after → TellsRefusal meaning held before after
by meaning c held before after is told = record { stop = told.stop; is = record { command = c; is = is; why = told.is }; printed = told.printed }

told_as : (c : Command) (held : Content) (before after : Outside) (out out' : Output) (x : Status) → EndsAs c before after out out' x → x ≡ Refused → before.content ≡ Some held → Tells (RefusesAs c held) out.written out'.written
told_as (check input output options names) held before after out out' x h e c = check_told input output options names held before after out out' x c h e
told_as (dump file) held before after out out' x h e c = dump_told file held before after out out' x c h.0 e
told_as (unwind file image) held before after out out' x h e c = unwind_told file image held before after out out' x c h.0 e
told_as (sites input output options map names) held before after out out' x h e c = sites_told (list_options options) map input output names held before after out out' x c h e
told_as (list file) held before after out out' x h e c = list_told file held before after out out' x c h.0 e
told_as (entry input rules map names) held before after out out' x h e c = entry_told map (entry_options rules) input names held before after out out' x c h.0 e
told_as (cfi input output map names) held before after out out' x h e c = cfi_told map input output names held before after out out' x c h e
told_as (cfa file) held before after out out' x h e c = cfa_told file held before after out out' x c h.0 e
told_as (merge layout output) held before after out out' x h e c = merge_told layout output held before after out out' x c h e
told_as (find table address) held before after out out' x h e c = find_told table address held before after out out' x c h.0 e
told_as (show input function map names) held before after out out' x h e c = show_told map input names function held before after out out' x c h.0 e
told_as (explain topic) held before after out out' x h e c = absurd (done_not_refused (whole_text Done _ out out' x h.1 e).0)
told_as (demo n) held before after out out' x h e c = demo_told n out out' x h.1 e
told_as help held before after out out' x h e c = absurd (done_not_refused (whole_text Done _ out out' x h.1 e).0)
told_as version held before after out out' x h e c = absurd (done_not_refused (whole_text Done _ out out' x h.1 e).0)

pub refusal_told : (meaning : Meaning) (held : Content) (before after : Outside) (out out' : Output) (x : Status) → Ends meaning before after out out' x → x ≡ Refused → before.content ≡ Some held → TellsRefusal meaning held out.written out'.written
refusal_told meaning held before after out out' x (faulty word kind is same t) e c = absurd (usage_not_refused (whole_line (stop.Usage (usage_at word kind)) out out' x t e).0)
refusal_told meaning held before after out out' x (unfinished same t) e c = absurd (memory_not_refused (whole_line stop.NoMemory out out' x t e).0)
refusal_told meaning held before after out out' x (ended command is h) e c = by meaning command held out.written out'.written is (told_as command held before after out out' x h e c)

-- ---- what is refused isn't done, nor warned of

check_not_done : OneOutcome → (s : CommandStop) (input output : List ℕ) (options : CheckOptions) (names : Option (List ℕ)) (held : Content) (before after : Outside) (out out' : Output) (x : Status) → before.content ≡ Some held → RefusesCheck input options names held s → EndsCheck input output options names before after out out' x → x ≢ Done
check_not_done one s input output options names held before after out out' Done c why (done d same) e =
    unrefused (λ b l t. IsRefusal b l options t) s input names held d.accepted.read d.accepted.lists (is_read MAX_FILE_BYTES input d.accepted.read held before.content c d.accepted.is_read.may) (named_in names held before.content d.accepted.lists c d.accepted.is_read.named)
    (λ t no. refused_memory t d.accepted.read d.accepted.lists options (accepted_unrefused one d.accepted.read d.table d.accepted.lists options d.accepted.accepts) no) why
check_not_done one s input output options names held before after out out' x c why (warned o warnings is kept t) e = warnings_not_done (printed_done Warnings _ out out' x t e)
check_not_done one s input output options names held before after out out' x c why (stopped told h t) e = concluded_not_done told out out' x t e

check_not_warned : OneOutcome → (s : CommandStop) (input output : List ℕ) (options : CheckOptions) (names : Option (List ℕ)) (held : Content) (before after : Outside) (out out' : Output) (x : Status) → before.content ≡ Some held → RefusesCheck input options names held s → EndsCheck input output options names before after out out' x → x ≢ Warnings
check_not_warned one s input output options names held before after out out' Done c why (done d same) e = done_no_warnings e
check_not_warned one s input output options names held before after out out' x c why (warned o warnings is kept t) e =
    unrefused (λ b l t. IsRefusal b l options t) s input names held is.read is.lists (is_read MAX_FILE_BYTES input is.read held before.content c is.is_read.may) (named_in names held before.content is.lists c is.is_read.named)
    (λ t no. refused_memory t is.read is.lists options (broken_unrefused one is.read is.lists options (warns_breaks is.read is.lists options o warnings is.warns)) no) why
check_not_warned one s input output options names held before after out out' x c why (stopped told h t) e = concluded_no_warnings told out out' x t e

dump_not_done : (s : CommandStop) (file : List ℕ) (held : Content) (content : Option Content) (before after : Option (List ℕ)) → content ≡ Some held → RefusesDump file held s → IsDumped file content before after → ⊥
dump_not_done s file held content before after c (object_unread h) d = readable MAX_FILE_BYTES s held file d.bytes h (is_read MAX_FILE_BYTES file d.bytes held content c d.may)
dump_not_done s file held content before after c (without_rows bytes is h other) d =
    other (no_rows_excluded bytes d.object d.rows s (subst (λ (b : List ℕ). HoldsRows b d.object d.rows) (one_text MAX_FILE_BYTES held file d.bytes bytes (is_read MAX_FILE_BYTES file d.bytes held content c d.may) is) d.held) h)

unwind_not_done : (s : CommandStop) (file image : List ℕ) (held : Content) (content : Option Content) (before after : Option (List ℕ)) → content ≡ Some held → RefusesUnwind file image held s → IsUnwound file image content before after → ⊥
unwind_not_done s file image held content before after c (tables_unread h) d = readable MAX_FILE_BYTES s held file d.bytes h (is_read MAX_FILE_BYTES file d.bytes held content c d.may)
unwind_not_done s file image held content before after c (image_unread bytes is h) d = readable MAX_IMAGE_BYTES s held image d.text h (is_read MAX_IMAGE_BYTES image d.text held content c d.may_text)
unwind_not_done s file image held content before after c (without_walk bytes text is said h other) d =
    let placed = subst (λ (t : List ℕ). IsPlaced bytes t d.stack d.object d.rows) (one_text MAX_IMAGE_BYTES held image d.text text (is_read MAX_IMAGE_BYTES image d.text held content c d.may_text) said)
    (subst (λ (b : List ℕ). IsPlaced b d.text d.stack d.object d.rows) (one_text MAX_FILE_BYTES held file d.bytes bytes (is_read MAX_FILE_BYTES file d.bytes held content c d.may) is) d.placed) in
    other (walk_excluded bytes text d.stack d.object d.rows s placed h)

demo_left : (x : Status) → IsOrFails Refused x → IsRefusedOrFails x
demo_left x (inl e) = inl e
demo_left x (inr (inl e)) = inr (inr (inl e))
demo_left x (inr (inr e)) = inr (inr (inr e))

demo_refused : OneOutcome → (s : CommandStop) (n : ℕ) (out out' : Output) (x : Status) → RefusesDemo n s → SumsUp (demo_title n) (demo_bytes n) out out' x → IsRefusedOrFails x
demo_refused one (stop.Refused why) n out out' x h sums = demo_left x (sums_uncheckable one (demo_title n) (demo_bytes n) _ out out' x sums h)
demo_refused one stop.NoMemory n out out' x h sums = absurd h
demo_refused one (stop.Usage usage) n out out' x h sums = absurd h
demo_refused one (stop.PartMissing part file) n out out' x h sums = absurd h
demo_refused one (stop.PartTooLong part file limit) n out out' x h sums = absurd h
demo_refused one (stop.PartRefused part refusal) n out out' x h sums = absurd h
demo_refused one (stop.Missing told) n out out' x h sums = absurd h
demo_refused one (stop.TooLong told limit) n out out' x h sums = absurd h
demo_refused one (stop.FileFault told) n out out' x h sums = absurd h

check_refused : OneOutcome → (s : CommandStop) (input output : List ℕ) (options : CheckOptions) (names : Option (List ℕ)) (held : Content) (before after : Outside) (out out' : Output) (x : Status) → before.content ≡ Some held → RefusesCheck input options names held s → EndsCheck input output options names before after out out' x → IsRefusedOrFails x
check_refused one s input output options names held before after out out' x c why h =
    left x
    (check_not_done one s input output options names held before after out out' x c why h)
    (check_not_warned one s input output options names held before after out out' x c why h)
    (check_ended input output options names before after out out' x h)

dump_refused : (s : CommandStop) (file : List ℕ) (held : Content) (before after : Outside) (out out' : Output) (x : Status) → before.content ≡ Some held → RefusesDump file held s → EndsDump file before after out out' x → IsRefusedOrFails x
dump_refused s file held before after out out' x c why h =
    left x
    (λ e. dump_not_done s file held before.content out.written out'.written c why (file_dumped file before after out out' x h e))
    (dump_no_warnings file before after out out' x h)
    (dump_no_usage file before after out out' x h)

unwind_refused : (s : CommandStop) (file image : List ℕ) (held : Content) (before after : Outside) (out out' : Output) (x : Status) → before.content ≡ Some held → RefusesUnwind file image held s → EndsUnwind file image before after out out' x → IsRefusedOrFails x
unwind_refused s file image held before after out out' x c why h =
    left x
    (λ e. unwind_not_done s file image held before.content out.written out'.written c why (files_unwound file image before after out out' x h e))
    (unwind_no_warnings file image before after out out' x h)
    (unwind_no_usage file image before after out out' x h)

refused_as : OneOutcome → (c : Command) (held : Content) (before after : Outside) (out out' : Output) (x : Status) (s : CommandStop) → EndsAs c before after out out' x → before.content ≡ Some held → RefusesAs c held s → IsRefusedOrFails x
refused_as one (check input output options names) held before after out out' x s h c why = check_refused one s input output options names held before after out out' x c why h
refused_as one (dump file) held before after out out' x s h c why = dump_refused s file held before after out out' x c why h.0
refused_as one (unwind file image) held before after out out' x s h c why = unwind_refused s file image held before after out out' x c why h.0
refused_as one (sites input output options map names) held before after out out' x s h c why = sites_refused one (list_options options) map input output names held before after out out' x s h c why
refused_as one (list file) held before after out out' x s h c why = list_refused file held before after out out' x s h.0 c why
refused_as one (entry input rules map names) held before after out out' x s h c why = entry_refused one map (entry_options rules) input names held before after out out' x s h.0 c why
refused_as one (cfi input output map names) held before after out out' x s h c why = cfi_refused one map input output names held before after out out' x s h c why
refused_as one (cfa file) held before after out out' x s h c why = cfa_refused file held before after out out' x s h.0 c why
refused_as one (merge layout output) held before after out out' x s h c why = merge_refused layout output held before after out out' x s h c why
refused_as one (find table address) held before after out out' x s h c why = find_refused table address held before after out out' x s h.0 c why
refused_as one (show input function map names) held before after out out' x s h c why = show_refused one map input names function held before after out out' x s h.0 c why
refused_as one (explain topic) held before after out out' x s h c why = absurd why
refused_as one (demo n) held before after out out' x s h c why = demo_refused one s n out out' x why h.1
refused_as one help held before after out out' x s h c why = absurd why
refused_as one version held before after out out' x s h c why = absurd why

pub refusal_answered : OneOutcome → (meaning : Meaning) (held : Content) (before after : Outside) (out out' : Output) (x : Status) (s : CommandStop) → Ends meaning before after out out' x → before.content ≡ Some held → IsRefused meaning held s → IsRefusedOrFails x
refusal_answered one meaning held before after out out' x s ends c r = elim (ends_as r.command meaning before after out out' x ends r.is) [
  | inl h ↦ refused_as one r.command held before after out out' x s h c r.why
  | inr none ↦ inr (inr (inr (concluded_no_memory out out' x none.1)))
]
