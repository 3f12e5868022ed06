-- The status of words at fault comes of such words alone.
use Rattle.std.proofs.Common.{◌≡◌, ℕ, List, refl, sym, ◌∙◌, subst}
use Rattle.std.specs.Prelude.{◌≢◌, Option}
use Rattle.command_base.specs.declared.status.Status.{Status}
use Rattle.command_base.specs.declared.status.Status.TheVariants as status
use Rattle.command_base.specs.declared.stop.CommandStop.{CommandStop}
use Rattle.command_base.specs.declared.stop.CommandStop.TheVariants as stop
use Rattle.command_base.specs.declared.usage.Usage.{Usage}
use Rattle.command_base.specs.Outside.{Outside, Output}
use Rattle.command_base.specs.Printing.{Concludes, Prints, fails, fault_stays, runs_out, silent, tells, whole}
use Rattle.command_base.specs.Reading.{StopsAtRead}
use Rattle.command_base.specs.Stop.{status_of}
use Rattle.command_base.specs.Dump as dumping
use Rattle.command_base.specs.Dump.{Dumps, EndsDump, HoldsNoRows}
use Rattle.command_base.specs.Unwind as unwinding
use Rattle.command_base.specs.Unwind.{EndsUnwind, HasNoWalk, Unwinds}
use Rattle.objtool_cli.specs.Checked.{IsRefusal, IsUncheckableStop}
use Rattle.objtool_cli.specs.Command.{Ends, EndsAs, EndsCheck, IsFaulty, Stops, at_fault, done, ended, faulty, refused, stopped, unfinished, unread, unwritten, warned, without_names}
use Rattle.command_base.specs.Names.{IsListsStop, StopsAtNames, names_unread, no_lists, no_names}
use Rattle.objtool_cli.specs.Summary as sums
use Rattle.objtool_cli.specs.Summary.{SumsUp, no_options}
use Rattle.command_base.specs.Writing.{StopsAtWrite}
use Rattle.cli_words.specs.declared.options.CheckOptions.{CheckOptions}
use Rattle.objtool_cli.specs.Words.{Meaning}
use Rattle.cli_words.specs.Grammar.{Command, cfa, cfi, check, demo, dump, entry, explain, find, help, list, merge, show, sites, unwind, version}
use Rattle.command_base.proofs.ListLaws.{list_no_usage}
use Rattle.code_commands.specs.SitesWords.{list_options}
use Rattle.code_commands.proofs.SitesLaws.{sites_no_usage}
use Rattle.command_base.proofs.CfaLaws.{cfa_no_usage}
use Rattle.code_commands.specs.EntryWords.{EntryOptions, entry_options}
use Rattle.code_commands.specs.Entry as entering
use Rattle.code_commands.specs.Entry.{EndsEntry, IsUncheckable, StopsEntry}
use Rattle.objtool_cli.specs.Cfi as framing
use Rattle.objtool_cli.specs.Cfi.{EndsCfi, GetNoFrames, IsUnchecked, StopsCfi}
use Rattle.elf_objects.specs.Elf.{Elf}
use Rattle.ot_base.specs.NameLists.{NameLists, built_in}
use Rattle.x86_map.specs.declared.map.Map.{Map}
use Rattle.command_base.proofs.MergeLaws.{merge_no_usage}
use Rattle.command_base.proofs.FindLaws.{find_no_usage}
use Rattle.code_commands.proofs.ShowLaws.{show_no_usage}

not_usage : (end : Status) (text : List ℕ) (before after : Output) (x : Status) → Prints end text before after x → end ≢ status.Usage → x ≢ status.Usage
not_usage end text before after x (whole at all) other e = other (sym at ∙ e)
not_usage end text before after status.FileFault (fault_stays prefix rose at) other e = cc
not_usage end text before after status.SinkFault (fails prefix rose at) other e = cc
not_usage end text before after status.NoMemory (runs_out prefix) other e = cc

done_not_usage : status.Done ≢ status.Usage
done_not_usage e = cc

-- the stop is no fault of the words
abbrev IsOther : CommandStop → Type 0
IsOther s = (usage : Usage) → s ≡ stop.Usage usage → ⊥

other_status : (s : CommandStop) → IsOther s → status_of s ≢ status.Usage
other_status (stop.Usage usage) other e = other usage refl
other_status (stop.PartMissing part file) other e = cc
other_status (stop.PartTooLong part file limit) other e = cc
other_status (stop.PartRefused part refusal) other e = cc
other_status (stop.Missing file) other e = cc
other_status (stop.TooLong file limit) other e = cc
other_status (stop.Refused refusal) other e = cc
other_status (stop.FileFault file) other e = cc
other_status stop.NoMemory other e = cc

concluded_other : (s : CommandStop) (before after : Output) (x : Status) → Concludes s before after x → IsOther s → x ≢ status.Usage
concluded_other s before after x (tells some t) other e = not_usage _ _ before after x t (other_status s other) e
concluded_other s before after status.NoMemory (silent is same) other e = cc

unread_other : (limit : ℕ) (name : List ℕ) (before after : Outside) (s : CommandStop) → StopsAtRead limit name before after s → IsOther s
unread_other limit name before after s h usage is = subst (λ (t : CommandStop). StopsAtRead limit name before after t) is h

-- ---- `dump`

no_rows_usage : (bytes : List ℕ) (usage : Usage) → HoldsNoRows bytes (stop.Usage usage) → ⊥
no_rows_usage bytes usage h = elim h [ ]

rows_other : (bytes : List ℕ) (s : CommandStop) → HoldsNoRows bytes s → IsOther s
rows_other bytes s h usage is = no_rows_usage bytes usage (subst (λ (t : CommandStop). HoldsNoRows bytes t) is h)

bytes_dumped : (bytes : List ℕ) (out out' : Output) (x : Status) → Dumps bytes out out' x → x ≢ status.Usage
bytes_dumped bytes out out' x (dumping.printed o rows holds t) e = not_usage _ _ out out' x t done_not_usage e
bytes_dumped bytes out out' x (dumping.stopped s h t) e = concluded_other s out out' x t (rows_other bytes s h) e

pub file_dumped : (file : List ℕ) (before after : Outside) (out out' : Output) (x : Status) → EndsDump file before after out out' x → x ≢ status.Usage
file_dumped file before after out out' x (dumping.unread s h t) e = concluded_other s out out' x t (unread_other _ file before after s h) e
file_dumped file before after out out' x (dumping.read bytes may h) e = bytes_dumped bytes out out' x h e

-- ---- `unwind`

no_walk_usage : (bytes text : List ℕ) (usage : Usage) → HasNoWalk bytes text (stop.Usage usage) → ⊥
no_walk_usage bytes text usage (unwinding.no_rows image is h) = no_rows_usage bytes usage h

walk_other : (bytes text : List ℕ) (s : CommandStop) → HasNoWalk bytes text s → IsOther s
walk_other bytes text s h usage is = no_walk_usage bytes text usage (subst (λ (t : CommandStop). HasNoWalk bytes text t) is h)

bytes_unwound : (bytes text : List ℕ) (out out' : Output) (x : Status) → Unwinds bytes text out out' x → x ≢ status.Usage
bytes_unwound bytes text out out' x (unwinding.walked image o rows frames why placed walks t) e = not_usage _ _ out out' x t done_not_usage e
bytes_unwound bytes text out out' x (unwinding.stopped s h t) e = concluded_other s out out' x t (walk_other bytes text s h) e

pub files_unwound : (file image : List ℕ) (before after : Outside) (out out' : Output) (x : Status) → EndsUnwind file image before after out out' x → x ≢ status.Usage
files_unwound file image before after out out' x (unwinding.no_file s h t) e = concluded_other s out out' x t (unread_other _ file before after s h) e
files_unwound file image before after out out' x (unwinding.no_text bytes s may h t) e = concluded_other s out out' x t (unread_other _ image before after s h) e
files_unwound file image before after out out' x (unwinding.read bytes text may may_text h) e = bytes_unwound bytes text out out' x h e

memory_other : IsOther stop.NoMemory
memory_other usage e = cc

-- ---- `check`

names_other : (names : Option (List ℕ)) (before after : Outside) (s : CommandStop) → StopsAtNames names before after s → IsOther s
names_other names before after s (names_unread file is h) = unread_other _ file before after s h
names_other names before after s (no_names file text is may h) = λ usage same. subst (λ (t : CommandStop). IsListsStop text t) same h
names_other names before after stop.NoMemory no_lists = memory_other

stop_other : (s : CommandStop) (input output : List ℕ) (options : CheckOptions) (names : Option (List ℕ)) (before after : Outside) → Stops input output options names before after s → IsOther s
stop_other s input output options names before after (unread h kept) = unread_other _ input before after s h
stop_other s input output options names before after (without_names read may h kept) = names_other names before after s h
stop_other s input output options names before after (refused read lists is h kept) = λ usage same. subst (λ (t : CommandStop). IsRefusal read lists options t) same h
stop_other s input output options names before after (unwritten table accepted h others) = λ usage same. subst (λ (t : CommandStop). StopsAtWrite output before after t) same h

warnings_not_usage : status.Warnings ≢ status.Usage
warnings_not_usage e = cc

pub check_ended : (input output : List ℕ) (options : CheckOptions) (names : Option (List ℕ)) (before after : Outside) (out out' : Output) (x : Status) → EndsCheck input output options names before after out out' x → x ≢ status.Usage
check_ended input output options names before after out out' status.Done (done d same) e = cc
check_ended input output options names before after out out' x (warned o warnings is kept t) e = not_usage _ _ out out' x t warnings_not_usage e
check_ended input output options names before after out out' x (stopped s h t) e = concluded_other s out out' x t (stop_other s input output options names before after h) e

-- ---- `cfi`

framed_other : (map : Map) (input output : List ℕ) (names : Option (List ℕ)) (before after : Outside) (s : CommandStop) → StopsCfi map input output names before after s → IsOther s
framed_other map input output names before after s (framing.unread h kept) = unread_other _ input before after s h
framed_other map input output names before after s (framing.without_names read may h kept) = names_other names before after s h
framed_other map input output names before after s (framing.refused read lists is h kept) = λ usage same. no_frames_usage map read lists usage (subst (λ (t : CommandStop). GetNoFrames map read lists t) same h)
  where
    no_unchecked_usage : (map : Map) (lists : NameLists) (o : Elf) (usage : Usage) → IsUnchecked map lists o (stop.Usage usage) → ⊥
    no_unchecked_usage map lists o usage h = elim h [ ]

    no_frames_usage : (map : Map) (bytes : List ℕ) (lists : NameLists) (usage : Usage) → GetNoFrames map bytes lists (stop.Usage usage) → ⊥
    no_frames_usage map bytes lists usage (framing.unchecked o is why) = no_unchecked_usage map lists o usage why
framed_other map input output names before after s (framing.unwritten o rows file may h others) = λ usage same. subst (λ (t : CommandStop). StopsAtWrite output before after t) same h

cfi_no_usage : (map : Map) (input output : List ℕ) (names : Option (List ℕ)) (before after : Outside) (out out' : Output) (x : Status) → EndsCfi map input output names before after out out' x → x ≢ status.Usage
cfi_no_usage map input output names before after out out' status.Done (framing.done o rows file may e same) is = cc
cfi_no_usage map input output names before after out out' x (framing.warned o warnings may kept t) is = not_usage _ _ out out' x t warnings_not_usage is
cfi_no_usage map input output names before after out out' x (framing.stopped s h t) is = concluded_other s out out' x t (framed_other map input output names before after s h) is

-- ---- `entry`

entry_other : (map : Map) (input : List ℕ) (names : Option (List ℕ)) (before after : Outside) (s : CommandStop) → StopsEntry map input names before after s → IsOther s
entry_other map input names before after s (entering.unread h) = unread_other _ input before after s h
entry_other map input names before after s (entering.without_names read may h) = names_other names before after s h
entry_other map input names before after s (entering.refused read lists is h) = λ usage same. no_checked_usage map read lists usage (subst (λ (t : CommandStop). IsUncheckable map read lists t) same h)
  where
    no_checked_usage : (map : Map) (bytes : List ℕ) (lists : NameLists) (usage : Usage) → IsUncheckable map bytes lists (stop.Usage usage) → ⊥
    no_checked_usage map bytes lists usage h = elim h [ ]

entry_no_usage : (map : Map) (options : EntryOptions) (input : List ℕ) (names : Option (List ℕ)) (before after : Outside) (out out' : Output) (x : Status) → EndsEntry map options input names before after out out' x → x ≢ status.Usage
entry_no_usage map options input names before after out out' status.Done (entering.done o lists may unbroken keeps same) is = cc
entry_no_usage map options input names before after out out' x (entering.warned o lists warnings may are some t) is = not_usage _ _ out out' x t warnings_not_usage is
entry_no_usage map options input names before after out out' x (entering.stopped s h t) is = concluded_other s out out' x t (entry_other map input names before after s h) is

-- ---- `demo`

pub sums_no_usage : (title bytes : List ℕ) (out out' : Output) (x : Status) → SumsUp title bytes out out' x → x ≢ status.Usage
sums_no_usage title bytes out out' x (sums.passed counts rows p t) e = not_usage _ _ out out' x t done_not_usage e
sums_no_usage title bytes out out' x (sums.warned o warnings w t) e = not_usage _ _ out out' x t warnings_not_usage e
sums_no_usage title bytes out out' x (sums.stopped s h t) e = concluded_other s out out' x t (λ usage same. subst (λ (u : CommandStop). IsUncheckableStop no_options.map bytes built_in u) same h) e

used_as : (c : Command) (before after : Outside) (out out' : Output) (x : Status) → EndsAs c before after out out' x → x ≢ status.Usage
used_as (check input output options names) before after out out' x h e = check_ended input output options names before after out out' x h e
used_as (dump file) before after out out' x h e = file_dumped file before after out out' x h.0 e
used_as (unwind file image) before after out out' x h e = files_unwound file image before after out out' x h.0 e
used_as (sites input output options map names) before after out out' x h e = sites_no_usage (list_options options) map input output names before after out out' x h e
used_as (list file) before after out out' x h e = list_no_usage file before after out out' x h.0 e
used_as (entry input rules map names) before after out out' x h e = entry_no_usage map (entry_options rules) input names before after out out' x h.0 e
used_as (cfi input output map names) before after out out' x h e = cfi_no_usage map input output names before after out out' x h e
used_as (cfa file) before after out out' x h e = cfa_no_usage file before after out out' x h.0 e
used_as (merge layout output) before after out out' x h e = merge_no_usage layout output before after out out' x h e
used_as (find table address) before after out out' x h e = find_no_usage table address before after out out' x h.0 e
used_as (show input function map names) before after out out' x h e = show_no_usage map input names function before after out out' x h.0 e
used_as (explain topic) before after out out' x h e = not_usage _ _ out out' x h.1 done_not_usage e
used_as (demo n) before after out out' x h e = sums_no_usage _ _ out out' x h.1 e
used_as help before after out out' x h e = not_usage _ _ out out' x h.1 done_not_usage e
used_as version before after out out' x h e = not_usage _ _ out out' x h.1 done_not_usage e

pub only_faulty : (meaning : Meaning) (before after : Outside) (out out' : Output) (x : Status) → Ends meaning before after out out' x → x ≡ status.Usage → IsFaulty meaning
only_faulty meaning before after out out' x (faulty word kind is same t) e = at_fault word kind is
only_faulty meaning before after out out' x (unfinished same t) e = absurd (concluded_other stop.NoMemory out out' x t memory_other e)
only_faulty meaning before after out out' x (ended command is h) e = absurd (used_as command before after out out' x h e)
