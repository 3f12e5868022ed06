-- What follows from how `entry` ends.
use Rattle.std.proofs.Common.{◌≡◌, ℕ, List, [], ◌∷◌, Contains, refl, sym, ap, subst, inl, inr}
use Rattle.std.specs.Prelude.{◌≢◌, Option, Some, None, Ok}
use Rattle.std.specs.FinMap.{get}
use Rattle.ot_base.specs.NameLists.{NameLists}
use Rattle.ot_base.specs.Warnings.{numbered_warning}
use Rattle.ot_base.specs.declared.warning.Warning.{Warning}
use Rattle.ot_files.specs.Causes.{Rose}
use Rattle.ot_files.specs.Content.{Content, reading}
use Rattle.elf_objects.specs.declared.TheConstants.{MAX_FILE_BYTES}
use Rattle.elf_objects.specs.Elf.{Elf}
use Rattle.elf_objects.specs.Object.{IsObject}
use Rattle.x86_decode.specs.Decoding.{OneOutcome}
use Rattle.x86_map.specs.declared.map.Map.{Map}
use Rattle.flow_defs.specs.Coded.{Coded, coded_by}
use Rattle.unwinding_law.proofs.Lists.{here, nowhere}
use Rattle.entry_rules.specs.declared.options.EntryOptions.{EntryOptions}
use Rattle.command_base.specs.Dump.{IsAnswered}
use Rattle.command_base.specs.Names.{HasNames}
use Rattle.command_base.specs.Outside.{Outside, Output}
use Rattle.command_base.specs.Printing.{Concludes, Prints, fails, fault_stays, runs_out, whole}
use Rattle.command_base.specs.Stop.{status_of}
use Rattle.command_base.specs.declared.status.Status.{Status}
use Rattle.command_base.specs.declared.status.Status.TheVariants.{Done, Warnings, Refused, Usage, FileFault, SinkFault, NoMemory}
use Rattle.command_base.specs.declared.stop.CommandStop.{CommandStop}
use Rattle.command_base.proofs.ConcludeLemmas.{concluded_fault, concluded_no_warnings, concluded_not_done, concluded_sink_fault, printed_done, printed_fault, printed_sink_fault}
use Rattle.command_base.proofs.DumpLaws.{no_memory_left, not_file_fault, not_sink_fault, not_warnings, one_object, read_fault, unread_left}
use Rattle.command_base.specs.Code.{IsInOrder}
use Rattle.code_commands.specs.Entry.{AreEntryWarnings, BreaksEntryRule, EndsEntry, InKeepsEntryRules, IsUnbroken, IsUncheckable, KeepsEntryRules, MayBeChecked, PrintsEntryWarnings, StopsEntry, done, malformed, no_memory, refused, stopped, unflowed, unlinked, unread, warned, without_names}
use Rattle.command_base.specs.Refusing.{IsRefusedOrFails, IsWarnedOrFails, Tells}
use Rattle.command_base.specs.Inputs.{input_refused, input_unread}
use Rattle.code_commands.specs.EntryRefused.{RefusesEntry}
use Rattle.command_base.proofs.InputLemmas.{IsKnown, named_in, names_refuse, one_names, one_reading, unrefused}
use Rattle.command_base.proofs.Content.{held_is}
use Rattle.command_base.proofs.Stops.{concluded_usage, done_not_refused, is_read, left, names_fault, names_left, names_no_usage, not_memory, of_stop, one_text, read_no_usage, unreadable, warned_text, whole_text}
use Rattle.code_commands.proofs.EntryUncheckable.{order_excluded}

-- ---- statuses

warnings_not_done : Warnings ≢ Done
warnings_not_done e = cc

warnings_not_refused : Warnings ≢ Refused
warnings_not_refused e = cc

warnings_not_usage : Warnings ≢ Usage
warnings_not_usage e = cc

warnings_no_file_fault : Warnings ≢ FileFault
warnings_no_file_fault e = cc

warnings_no_sink_fault : Warnings ≢ SinkFault
warnings_no_sink_fault e = cc

done_not_usage : Done ≢ Usage
done_not_usage e = cc

printed_left : (text : List ℕ) (out out' : Output) (x : Status) → Prints Warnings text out out' x → IsWarnedOrFails x
printed_left text out out' x (whole at all) = inl at
printed_left text out out' FileFault (fault_stays prefix rose at) = inr (inl refl)
printed_left text out out' SinkFault (fails prefix rose other) = inr (inr (inl refl))
printed_left text out out' NoMemory (runs_out prefix) = inr (inr (inr refl))

-- ---- what it promises

keeps_in : (map : Map) (options : EntryOptions) (input : List ℕ) (names : Option (List ℕ)) (o : Elf) (lists : NameLists) (content : Option Content) → MayBeChecked map content input names o lists → KeepsEntryRules (coded_by map o) lists options → InKeepsEntryRules map options input names content
keeps_in map options input names o lists None may keeps = tt
keeps_in map options input names o lists (Some held) may keeps = record {
  read = may.read;
  held = held_is MAX_FILE_BYTES (get held input) may.read may.is_read.may;
  lists = lists;
  named = may.is_read.named;
  object = o;
  is_object = may.is;
  keeps = keeps;
}

pub entry_keeps : (map : Map) (options : EntryOptions) (input : List ℕ) (names : Option (List ℕ)) (before after : Outside) (out out' : Output) (x : Status) → EndsEntry map options input names before after out out' x → x ≡ Done → InKeepsEntryRules map options input names before.content
entry_keeps map options input names before after out out' Done (done o lists may unbroken keeps same) is = keeps_in map options input names o lists before.content may keeps
entry_keeps map options input names before after out out' x (warned o lists warnings may are some t) is = absurd (warnings_not_done (printed_done Warnings _ out out' x t is))
entry_keeps map options input names before after out out' x (stopped s h t) is = absurd (concluded_not_done s out out' x t is)

pub entry_silent : (map : Map) (options : EntryOptions) (input : List ℕ) (names : Option (List ℕ)) (before after : Outside) (out out' : Output) (x : Status) → EndsEntry map options input names before after out out' x → x ≡ Done → out'.written ≡ out.written
entry_silent map options input names before after out out' Done (done o lists may unbroken keeps same) is = ap (λ (u : Output). u.written) same
entry_silent map options input names before after out out' x (warned o lists warnings may are some t) is = absurd (warnings_not_done (printed_done Warnings _ out out' x t is))
entry_silent map options input names before after out out' x (stopped s h t) is = absurd (concluded_not_done s out out' x t is)

-- ---- where warnings are answered

pub entry_warned : (map : Map) (options : EntryOptions) (input : List ℕ) (names : Option (List ℕ)) (before after : Outside) (out out' : Output) (x : Status) → EndsEntry map options input names before after out out' x → x ≡ Warnings → PrintsEntryWarnings map options input names before.content out.written out'.written
entry_warned map options input names before after out out' Done (done o lists may unbroken keeps same) is = absurd (not_warnings is)
entry_warned map options input names before after out out' x (warned o lists warnings may are some t) is = record {
  object = o;
  lists = lists;
  warnings = warnings;
  may = may;
  are = are;
  some = some;
  printed = warned_text _ out out' x t is;
}
entry_warned map options input names before after out out' x (stopped s h t) is = absurd (concluded_no_warnings s out out' x t is)

-- ---- where IN is in order

-- the object and the lists of names are those that were read
pub same_object : (map : Map) (input : List ℕ) (names : Option (List ℕ)) (read : List ℕ) (o p : Elf) (others : NameLists) (held : Content) (content : Option Content) → content ≡ Some held → reading held input MAX_FILE_BYTES ≡ Ok read → IsObject read o → MayBeChecked map content input names p others → p ≡ o
same_object map input names read o p others held content c is of may =
    let same : may.read ≡ read = one_text MAX_FILE_BYTES held input may.read read (is_read MAX_FILE_BYTES input may.read held content c may.is_read.may) is in
    one_object read p o (subst (λ (b : List ℕ). IsObject b p) same may.is) of

pub same_lists : (map : Map) (input : List ℕ) (names : Option (List ℕ)) (p : Elf) (lists others : NameLists) (held : Content) (content : Option Content) → content ≡ Some held → HasNames (Some held) names lists → MayBeChecked map content input names p others → others ≡ lists
same_lists map input names p lists others held content c has may = one_names held names others lists (named_in names held content others c may.is_read.named) has

-- where there are no warnings no rule is broken
pub none_broken : (o : Coded) (lists : NameLists) (options : EntryOptions) (warnings : List Warning) → AreEntryWarnings o lists options warnings → warnings ≡ [] → IsUnbroken o lists options
none_broken o lists options warnings are none place rule a b h =
    let w : Warning = numbered_warning place rule a b in
    nowhere w (subst (λ (xs : List Warning). Contains xs w) none ((are.all w).1 h))

-- what breaks no rule has no warnings
none_warned : (o : Coded) (lists : NameLists) (options : EntryOptions) (warnings : List Warning) → AreEntryWarnings o lists options warnings → IsUnbroken o lists options → warnings ≡ []
none_warned o lists options [] are unbroken = refl
none_warned o lists options (w ∷ warnings) are unbroken = absurd (unbroken w.place w.rule w.a w.b ((are.all w).0 (here w warnings)))

pub stop_left : OneOutcome → (s : CommandStop) (map : Map) (input : List ℕ) (names : Option (List ℕ)) (read : List ℕ) (o : Elf) (lists : NameLists) (held : Content) (before after : Outside) (out out' : Output) (x : Status) → before.content ≡ Some held → reading held input MAX_FILE_BYTES ≡ Ok read → HasNames (Some held) names lists → IsObject read o → IsInOrder (coded_by map o) lists → StopsEntry map input names before after s → Concludes s out out' x → IsAnswered x
stop_left one s map input names read o lists held before after out out' x c is has of order (unread h) t = unread_left MAX_FILE_BYTES s input read held before after out out' x c is h t
stop_left one s map input names read o lists held before after out out' x c is has of order (without_names other may h) t = names_left s names lists held before after out out' x c has h t
stop_left one s map input names read o lists held before after out out' x c is has of order (refused other others was h) t =
    let known : IsKnown before input names read lists = record { held = held; told = c; is = is; named = has } in
    no_memory_left s out out' x (order_excluded one s map read lists o of order (one_reading (λ b l. IsUncheckable map b l s) before input names read other lists others known was h)) t

pub entry_accepts : OneOutcome → (map : Map) (options : EntryOptions) (input : List ℕ) (names : Option (List ℕ)) (read : List ℕ) (o : Elf) (lists : NameLists) (held : Content) (before after : Outside) (out out' : Output) (x : Status) → before.content ≡ Some held → reading held input MAX_FILE_BYTES ≡ Ok read → HasNames (Some held) names lists → IsObject read o → IsInOrder (coded_by map o) lists → IsUnbroken (coded_by map o) lists options → EndsEntry map options input names before after out out' x → IsAnswered x
entry_accepts one map options input names read o lists held before after out out' Done c is has of order clean (done p others may unbroken keeps same) = inl refl
entry_accepts one map options input names read o lists held before after out out' x c is has of order clean (warned p others warnings may are some t) =
    let own : IsUnbroken (coded_by map p) others options =
    subst (λ (l : NameLists). IsUnbroken (coded_by map p) l options) (sym (same_lists map input names p lists others held before.content c has may))
    (subst (λ (e : Elf). IsUnbroken (coded_by map e) lists options) (sym (same_object map input names read o p others held before.content c is of may)) clean) in
    absurd (some (none_warned (coded_by map p) others options warnings are own))
entry_accepts one map options input names read o lists held before after out out' x c is has of order clean (stopped s h t) = stop_left one s map input names read o lists held before after out out' x c is has of order h t

not_done_left : (x : Status) → x ≢ Done → IsAnswered x → IsWarnedOrFails x
not_done_left x other (inl e) = absurd (other e)
not_done_left x other (inr h) = inr h

pub entry_warns : OneOutcome → (map : Map) (options : EntryOptions) (input : List ℕ) (names : Option (List ℕ)) (read : List ℕ) (o : Elf) (lists : NameLists) (held : Content) (before after : Outside) (out out' : Output) (x : Status) → before.content ≡ Some held → reading held input MAX_FILE_BYTES ≡ Ok read → HasNames (Some held) names lists → IsObject read o → IsInOrder (coded_by map o) lists → BreaksEntryRule (coded_by map o) lists options → EndsEntry map options input names before after out out' x → IsWarnedOrFails x
entry_warns one map options input names read o lists held before after out out' Done c is has of order breaks (done p others may unbroken keeps same) =
    let own : IsUnbroken (coded_by map o) lists options =
    subst (λ (l : NameLists). IsUnbroken (coded_by map o) l options) (same_lists map input names p lists others held before.content c has may)
    (subst (λ (e : Elf). IsUnbroken (coded_by map e) others options) (same_object map input names read o p others held before.content c is of may) unbroken) in
    absurd (own breaks.place breaks.rule breaks.a breaks.b breaks.broken)
entry_warns one map options input names read o lists held before after out out' x c is has of order breaks (warned p others warnings may are some t) = printed_left _ out out' x t
entry_warns one map options input names read o lists held before after out out' x c is has of order breaks (stopped s h t) = not_done_left x (concluded_not_done s out out' x t) (stop_left one s map input names read o lists held before after out out' x c is has of order h t)

-- ---- where a step refuses

pub entry_refuse : (s : CommandStop) (map : Map) (input : List ℕ) (names : Option (List ℕ)) (held : Content) (before after : Outside) → before.content ≡ Some held → StopsEntry map input names before after s → status_of s ≡ Refused → RefusesEntry map input names held s
entry_refuse s map input names held before after c (unread h) e = input_unread (unreadable MAX_FILE_BYTES s input held before after c h e)
entry_refuse s map input names held before after c (without_names read may h) e =
    names_refuse (IsUncheckable map) s input names held read before after c may h e
entry_refuse s map input names held before after c (refused read lists was h) e =
    input_refused read lists (is_read MAX_FILE_BYTES input read held before.content c was.may) (named_in names held before.content lists c was.named) h (not_memory s e)

pub entry_told : (map : Map) (options : EntryOptions) (input : List ℕ) (names : Option (List ℕ)) (held : Content) (before after : Outside) (out out' : Output) (x : Status) → before.content ≡ Some held → EndsEntry map options input names before after out out' x → x ≡ Refused → Tells (RefusesEntry map input names held) out.written out'.written
entry_told map options input names held before after out out' Done c (done o lists may unbroken keeps same) is = absurd (done_not_refused is)
entry_told map options input names held before after out out' x c (warned o lists warnings may are some t) is = absurd (warnings_not_refused (whole_text Warnings _ out out' x t is).0)
entry_told map options input names held before after out out' x c (stopped s h t) is =
    of_stop (RefusesEntry map input names held) s out out' x t is (λ at. entry_refuse s map input names held before after c h at)

-- bytes of an object in order are refused by no step
pub unrefused_in : OneOutcome → (s : CommandStop) (map : Map) (input : List ℕ) (names : Option (List ℕ)) (held : Content) (o : Elf) (lists : NameLists) (content : Option Content) → content ≡ Some held → MayBeChecked map content input names o lists → RefusesEntry map input names held s → ⊥
unrefused_in one s map input names held o lists content c may why =
    unrefused (IsUncheckable map) s input names held may.read lists (is_read MAX_FILE_BYTES input may.read held content c may.is_read.may) (named_in names held content lists c may.is_read.named)
    (λ t no. order_excluded one t map may.read lists o may.is may.in_order no) why

unchecked_no_usage : (s : CommandStop) (map : Map) (bytes : List ℕ) (lists : NameLists) → IsUncheckable map bytes lists s → status_of s ≢ Usage
unchecked_no_usage s map bytes lists (malformed fault) e = cc
unchecked_no_usage s map bytes lists (unlinked o is some why worded) e = cc
unchecked_no_usage s map bytes lists (unflowed o is some linked why) e = cc
unchecked_no_usage s map bytes lists no_memory e = cc

pub stop_no_usage : (s : CommandStop) (map : Map) (input : List ℕ) (names : Option (List ℕ)) (before after : Outside) → StopsEntry map input names before after s → status_of s ≢ Usage
stop_no_usage s map input names before after (unread h) e = read_no_usage MAX_FILE_BYTES s input before after h e
stop_no_usage s map input names before after (without_names read may h) e = names_no_usage s names before after h e
stop_no_usage s map input names before after (refused read lists was h) e = unchecked_no_usage s map read lists h e

pub entry_refused : OneOutcome → (map : Map) (options : EntryOptions) (input : List ℕ) (names : Option (List ℕ)) (held : Content) (before after : Outside) (out out' : Output) (x : Status) (s : CommandStop) → EndsEntry map options input names before after out out' x → before.content ≡ Some held → RefusesEntry map input names held s → IsRefusedOrFails x
entry_refused one map options input names held before after out out' Done s (done o lists may unbroken keeps same) c why = absurd (unrefused_in one s map input names held o lists before.content c may why)
entry_refused one map options input names held before after out out' x s (warned o lists warnings may are some t) c why = absurd (unrefused_in one s map input names held o lists before.content c may why)
entry_refused one map options input names held before after out out' x s (stopped told h t) c why =
    left x (concluded_not_done told out out' x t) (concluded_no_warnings told out out' x t) (λ e. stop_no_usage told map input names before after h (concluded_usage told out out' x t e))

-- ---- faults

unchecked_no_fault : (s : CommandStop) (map : Map) (bytes : List ℕ) (lists : NameLists) → IsUncheckable map bytes lists s → status_of s ≢ FileFault
unchecked_no_fault s map bytes lists (malformed fault) e = cc
unchecked_no_fault s map bytes lists (unlinked o is some why worded) e = cc
unchecked_no_fault s map bytes lists (unflowed o is some linked why) e = cc
unchecked_no_fault s map bytes lists no_memory e = cc

pub stop_fault : (s : CommandStop) (map : Map) (input : List ℕ) (names : Option (List ℕ)) (before after : Outside) → StopsEntry map input names before after s → status_of s ≡ FileFault → Rose before.faults after.faults
stop_fault s map input names before after (unread h) e = read_fault MAX_FILE_BYTES s input before after h e
stop_fault s map input names before after (without_names read may h) e = names_fault s names before after h e
stop_fault s map input names before after (refused read lists was h) e = absurd (unchecked_no_fault s map read lists h e)

-- a fault of a file is answered only where its count rose
pub entry_fault : (map : Map) (options : EntryOptions) (input : List ℕ) (names : Option (List ℕ)) (before after : Outside) (out out' : Output) (x : Status) → EndsEntry map options input names before after out out' x → x ≡ FileFault → Rose before.faults after.faults
entry_fault map options input names before after out out' Done (done o lists may unbroken keeps same) is = absurd (not_file_fault is)
entry_fault map options input names before after out out' x (warned o lists warnings may are some t) is = absurd (warnings_no_file_fault (printed_fault Warnings _ out out' x t is))
entry_fault map options input names before after out out' x (stopped s h t) is = stop_fault s map input names before after h (concluded_fault s out out' x t is)

-- and a fault of the output
pub entry_sink_fault : (map : Map) (options : EntryOptions) (input : List ℕ) (names : Option (List ℕ)) (before after : Outside) (out out' : Output) (x : Status) → EndsEntry map options input names before after out out' x → x ≡ SinkFault → Rose out.faults out'.faults
entry_sink_fault map options input names before after out out' Done (done o lists may unbroken keeps same) is = absurd (not_sink_fault is)
entry_sink_fault map options input names before after out out' x (warned o lists warnings may are some t) is = printed_sink_fault Warnings _ out out' x t warnings_no_sink_fault is
entry_sink_fault map options input names before after out out' x (stopped s h t) is = concluded_sink_fault s out out' x t is
