-- What follows from how `show` ends.
use Rattle.std.proofs.Common.{◌≡◌, ℕ, List, refl, sym, ◌∙◌, subst}
use Rattle.std.specs.Prelude.{◌≢◌, true, false, Option, Some, Ok}
use Rattle.ot_base.specs.NameLists.{NameLists}
use Rattle.ot_files.specs.Causes.{Rose}
use Rattle.ot_files.specs.Content.{Content, reading}
use Rattle.elf_objects.specs.declared.TheConstants.{MAX_FILE_BYTES}
use Rattle.elf_objects.specs.Elf.{Elf}
use Rattle.elf_objects.specs.Object.{IsObject}
use Rattle.x86_decode.specs.Decoding.{OneOutcome}
use Rattle.x86_map.specs.declared.map.Map.{Map}
use Rattle.flow_defs.specs.Coded.{coded_by}
use Rattle.flow_defs.specs.Program.{program_of}
use Rattle.machine_defs.specs.Program.{Program}
use Rattle.code_listing.specs.Listing.{HasNoFunction}
use Rattle.command_base.specs.Code.{IsInOrder}
use Rattle.command_base.specs.Dump.{IsAnswered}
use Rattle.command_base.specs.Names.{HasNames}
use Rattle.command_base.specs.Outside.{Outside, Output}
use Rattle.command_base.specs.Printing.{Concludes}
use Rattle.command_base.specs.Refusing.{IsRefusedOrFails, Tells}
use Rattle.command_base.specs.Stop.{status_of}
use Rattle.command_base.specs.declared.refusal.Refusal.TheVariants as refusal
use Rattle.command_base.specs.declared.status.Status.{Status}
use Rattle.command_base.specs.declared.status.Status.TheVariants.{Done, Warnings, Refused, Usage, FileFault, SinkFault}
use Rattle.command_base.specs.declared.stop.CommandStop.{CommandStop}
use Rattle.command_base.specs.declared.stop.CommandStop.TheVariants as stop
use Rattle.command_base.proofs.ConcludeLemmas.{concluded_fault, concluded_no_warnings, concluded_not_done, concluded_sink_fault, printed_fault, printed_sink_fault, printed_warnings}
use Rattle.command_base.proofs.DumpLaws.{not_file_fault, not_sink_fault, not_warnings, printed_done, text_left}
use Rattle.command_base.proofs.Stops.{concluded_usage, done_no_usage, done_not_refused, is_read, left, of_stop, whole_text}
use Rattle.code_commands.specs.Entry.{MayBeChecked}
use Rattle.code_commands.specs.Show.{EndsShow, HasCode, HasFunction, IsNoFunction, PrintsListing, StopsShow, no_function, shown, stopped, unchecked}
use Rattle.code_commands.specs.ShowRefused as refused
use Rattle.code_commands.specs.ShowRefused.{RefusesShow}
use Rattle.command_base.proofs.InputLemmas.{named_in}
use Rattle.code_commands.proofs.EntryLaws.{entry_refuse, same_lists, same_object, stop_fault, stop_left, stop_no_usage, unrefused_in}

-- ---- a function that isn't there

is_refused : (name : List ℕ) (s : CommandStop) → IsNoFunction name s → status_of s ≡ Refused
is_refused name (stop.Refused (refusal.Malformed fault)) h = absurd h
is_refused name (stop.Refused (refusal.Orc fault)) h = absurd h
is_refused name (stop.Refused (refusal.Lists fault)) h = absurd h
is_refused name (stop.Refused (refusal.Image fault)) h = absurd h
is_refused name (stop.Refused (refusal.NoText sec)) h = absurd h
is_refused name (stop.Refused (refusal.Unplaced fault)) h = absurd h
is_refused name (stop.Refused (refusal.Unlinked told)) h = absurd h
is_refused name (stop.Refused (refusal.Unflowed told)) h = absurd h
is_refused name (stop.Refused (refusal.HasOrc sec)) h = absurd h
is_refused name (stop.Refused (refusal.HasSites sec)) h = absurd h
is_refused name (stop.Refused (refusal.Sites fault)) h = absurd h
is_refused name (stop.Refused (refusal.HasFrames sec)) h = absurd h
is_refused name (stop.Refused (refusal.Frames fault)) h = absurd h
is_refused name (stop.Refused (refusal.TooMany what count)) h = absurd h
is_refused name (stop.Refused (refusal.Layout fault)) h = absurd h
is_refused name (stop.Refused (refusal.TooManyFiles count)) h = absurd h
is_refused name (stop.Refused (refusal.Merge fault)) h = absurd h
is_refused name (stop.Refused (refusal.Table fault)) h = absurd h
is_refused name (stop.Refused (refusal.NoFunction told)) h = refl
is_refused name (stop.Usage usage) h = absurd h
is_refused name (stop.Missing told) h = absurd h
is_refused name (stop.TooLong told at) h = absurd h
is_refused name (stop.PartMissing part told) h = absurd h
is_refused name (stop.PartTooLong part told at) h = absurd h
is_refused name (stop.PartRefused part why) h = absurd h
is_refused name (stop.FileFault told) h = absurd h
is_refused name stop.NoMemory h = absurd h

no_usage : (name : List ℕ) (s : CommandStop) → IsNoFunction name s → status_of s ≢ Usage
no_usage name s h e = let same : Refused ≡ Usage = sym (is_refused name s h) ∙ e in cc

no_fault : (name : List ℕ) (s : CommandStop) → IsNoFunction name s → status_of s ≢ FileFault
no_fault name s h e = let same : Refused ≡ FileFault = sym (is_refused name s h) ∙ e in cc

lacks : (o : Elf) (p : Program) (name : List ℕ) → HasFunction o p name → HasNoFunction o p name → ⊥
lacks o p name has none = let same : true ≡ false = sym has.listed ∙ none has.at has.point in cc

-- code that is there isn't missing
code_lacks : (o : Elf) (p : Program) (function : Option (List ℕ)) (name : List ℕ) → function ≡ Some name → HasCode o p function → HasNoFunction o p name → ⊥
code_lacks o p function name given code none = lacks o p name (subst (HasCode o p) given code) none

-- the same of the object and the lists that were read
lacks_here : (map : Map) (o p : Elf) (lists others : NameLists) (function : Option (List ℕ)) (name : List ℕ) → p ≡ o → others ≡ lists → function ≡ Some name → HasCode o (program_of (coded_by map o) lists) function → HasNoFunction p (program_of (coded_by map p) others) name → ⊥
lacks_here map o p lists others function name same one given code none =
    code_lacks o (program_of (coded_by map o) lists) function name given code
    (subst (λ (l : NameLists). HasNoFunction o (program_of (coded_by map o) l) name) one (subst (λ (e : Elf). HasNoFunction e (program_of (coded_by map e) others) name) same none))

-- ---- where it is done

pub show_printed : (map : Map) (input : List ℕ) (names function : Option (List ℕ)) (before after : Outside) (out out' : Output) (x : Status) → EndsShow map input names function before after out out' x → x ≡ Done → PrintsListing map input names function before.content out.written out'.written
show_printed map input names function before after out out' x (shown o lists states may t) e = record { object = o; lists = lists; states = states; may = may; printed = printed_done _ out out' x t e }
show_printed map input names function before after out out' x (stopped s h t) e = absurd (concluded_not_done s out out' x t e)

-- ---- where IN has code of what is asked for

stop_answered : OneOutcome → (s : CommandStop) (map : Map) (input : List ℕ) (names function : Option (List ℕ)) (read : List ℕ) (o : Elf) (lists : NameLists) (held : Content) (before after : Outside) (out out' : Output) (x : Status) → before.content ≡ Some held → reading held input MAX_FILE_BYTES ≡ Ok read → HasNames (Some held) names lists → IsObject read o → IsInOrder (coded_by map o) lists → HasCode o (program_of (coded_by map o) lists) function → StopsShow map input names function before after s → Concludes s out out' x → IsAnswered x
stop_answered one s map input names function read o lists held before after out out' x c is has of order code (unchecked h) t = stop_left one s map input names read o lists held before after out out' x c is has of order h t
stop_answered one s map input names function read o lists held before after out out' x c is has of order code (no_function p others name may given none says) t =
    absurd (lacks_here map o p lists others function name (same_object map input names read o p others held before.content c is of may) (same_lists map input names p lists others held before.content c has may) given code none)

pub show_accepts : OneOutcome → (map : Map) (input : List ℕ) (names function : Option (List ℕ)) (read : List ℕ) (o : Elf) (lists : NameLists) (held : Content) (before after : Outside) (out out' : Output) (x : Status) → before.content ≡ Some held → reading held input MAX_FILE_BYTES ≡ Ok read → HasNames (Some held) names lists → IsObject read o → IsInOrder (coded_by map o) lists → HasCode o (program_of (coded_by map o) lists) function → EndsShow map input names function before after out out' x → IsAnswered x
show_accepts one map input names function read o lists held before after out out' x c is has of order code (shown p others states may t) = text_left _ out out' x t
show_accepts one map input names function read o lists held before after out out' x c is has of order code (stopped s h t) = stop_answered one s map input names function read o lists held before after out out' x c is has of order code h t

-- ---- where a step refuses

show_refuse : (s : CommandStop) (map : Map) (input : List ℕ) (names function : Option (List ℕ)) (held : Content) (before after : Outside) → before.content ≡ Some held → StopsShow map input names function before after s → status_of s ≡ Refused → RefusesShow map input names function held s
show_refuse s map input names function held before after c (unchecked h) e = refused.unchecked (entry_refuse s map input names held before after c h e)
show_refuse s map input names function held before after c (no_function o lists name may given none says) e =
    refused.without_function may.read o lists name (is_read MAX_FILE_BYTES input may.read held before.content c may.is_read.may) (named_in names held before.content lists c may.is_read.named) may.is may.in_order given none says

pub show_told : (map : Map) (input : List ℕ) (names function : Option (List ℕ)) (held : Content) (before after : Outside) (out out' : Output) (x : Status) → before.content ≡ Some held → EndsShow map input names function before after out out' x → x ≡ Refused → Tells (RefusesShow map input names function held) out.written out'.written
show_told map input names function held before after out out' x c (shown o lists states may t) e = absurd (done_not_refused (whole_text Done _ out out' x t e).0)
show_told map input names function held before after out out' x c (stopped s h t) e =
    of_stop (RefusesShow map input names function held) s out out' x t e (λ at. show_refuse s map input names function held before after c h at)

-- what may be shown is refused by no step
unrefused : OneOutcome → (s : CommandStop) (map : Map) (input : List ℕ) (names function : Option (List ℕ)) (held : Content) (content : Option Content) (o : Elf) (lists : NameLists) → content ≡ Some held → MayBeChecked map content input names o lists → HasCode o (program_of (coded_by map o) lists) function → RefusesShow map input names function held s → ⊥
unrefused one s map input names function held content o lists c may code (refused.unchecked why) = unrefused_in one s map input names held o lists content c may why
unrefused one s map input names function held content o lists c may code (refused.without_function read p others name is has of order given none says) =
    lacks_here map o p lists others function name (sym (same_object map input names read p o lists held content c is of may)) (sym (same_lists map input names o others lists held content c has may)) given code none

show_stop_no_usage : (s : CommandStop) (map : Map) (input : List ℕ) (names function : Option (List ℕ)) (before after : Outside) → StopsShow map input names function before after s → status_of s ≢ Usage
show_stop_no_usage s map input names function before after (unchecked h) e = stop_no_usage s map input names before after h e
show_stop_no_usage s map input names function before after (no_function o lists name may given none says) e = no_usage name s says e

pub show_no_usage : (map : Map) (input : List ℕ) (names function : Option (List ℕ)) (before after : Outside) (out out' : Output) (x : Status) → EndsShow map input names function before after out out' x → x ≢ Usage
show_no_usage map input names function before after out out' x (shown o lists states may t) e = done_no_usage _ out out' x t e
show_no_usage map input names function before after out out' x (stopped s h t) e = show_stop_no_usage s map input names function before after h (concluded_usage s out out' x t e)

pub show_no_warnings : (map : Map) (input : List ℕ) (names function : Option (List ℕ)) (before after : Outside) (out out' : Output) (x : Status) → EndsShow map input names function before after out out' x → x ≢ Warnings
show_no_warnings map input names function before after out out' x (shown o lists states may t) e = not_warnings (printed_warnings Done _ out out' x t e)
show_no_warnings map input names function before after out out' x (stopped s h t) e = concluded_no_warnings s out out' x t e

pub show_refused : OneOutcome → (map : Map) (input : List ℕ) (names function : Option (List ℕ)) (held : Content) (before after : Outside) (out out' : Output) (x : Status) (s : CommandStop) → EndsShow map input names function before after out out' x → before.content ≡ Some held → RefusesShow map input names function held s → IsRefusedOrFails x
show_refused one map input names function held before after out out' x s (shown o lists states may t) c why = absurd (unrefused one s map input names function held before.content o lists c may.may may.code why)
show_refused one map input names function held before after out out' x s (stopped told h t) c why =
    left x (concluded_not_done told out out' x t) (concluded_no_warnings told out out' x t) (λ e. show_stop_no_usage told map input names function before after h (concluded_usage told out out' x t e))

-- ---- faults

show_stop_fault : (s : CommandStop) (map : Map) (input : List ℕ) (names function : Option (List ℕ)) (before after : Outside) → StopsShow map input names function before after s → status_of s ≡ FileFault → Rose before.faults after.faults
show_stop_fault s map input names function before after (unchecked h) e = stop_fault s map input names before after h e
show_stop_fault s map input names function before after (no_function o lists name may given none says) e = absurd (no_fault name s says e)

-- a fault of a file is answered only where its count rose
pub show_fault : (map : Map) (input : List ℕ) (names function : Option (List ℕ)) (before after : Outside) (out out' : Output) (x : Status) → EndsShow map input names function before after out out' x → x ≡ FileFault → Rose before.faults after.faults
show_fault map input names function before after out out' x (shown o lists states may t) e = absurd (not_file_fault (printed_fault Done _ out out' x t e))
show_fault map input names function before after out out' x (stopped s h t) e = show_stop_fault s map input names function before after h (concluded_fault s out out' x t e)

-- and a fault of the output
pub show_sink_fault : (map : Map) (input : List ℕ) (names function : Option (List ℕ)) (before after : Outside) (out out' : Output) (x : Status) → EndsShow map input names function before after out out' x → x ≡ SinkFault → Rose out.faults out'.faults
show_sink_fault map input names function before after out out' x (shown o lists states may t) e = printed_sink_fault Done _ out out' x t not_sink_fault e
show_sink_fault map input names function before after out out' x (stopped s h t) e = concluded_sink_fault s out out' x t e
