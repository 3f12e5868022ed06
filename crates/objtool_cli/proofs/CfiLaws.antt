-- What follows from how `cfi` ends.
use Rattle.std.proofs.Common.{◌≡◌, ℕ, List, refl, sym, ap, subst, inl, inr}
use Rattle.std.specs.Prelude.{◌≢◌, ◌⊎◌, Option, Some, None, Ok}
use Rattle.std.specs.FinMap.{get}
use Rattle.ot_base.specs.NameLists.{NameLists}
use Rattle.ot_base.specs.declared.row.PlacedRow.{PlacedRow}
use Rattle.ot_files.specs.Content.{Content, reading, writing}
use Rattle.elf_objects.specs.declared.TheConstants.{MAX_FILE_BYTES}
use Rattle.elf_objects.specs.Elf.{Elf}
use Rattle.x86_decode.specs.Decoding.{OneOutcome}
use Rattle.x86_map.specs.declared.map.Map.{Map}
use Rattle.command_base.specs.Dump.{IsAnswered}
use Rattle.command_base.specs.Names.{HasNames}
use Rattle.command_base.specs.Outside.{Outside, Output}
use Rattle.command_base.specs.Printing.{Concludes}
use Rattle.command_base.specs.Stop.{status_of}
use Rattle.command_base.specs.declared.status.Status.{Status}
use Rattle.command_base.specs.declared.status.Status.TheVariants.{Done, Warnings, Refused, Usage, FileFault, NoMemory}
use Rattle.command_base.specs.declared.stop.CommandStop.{CommandStop}
use Rattle.command_base.specs.declared.stop.CommandStop.TheVariants as stop
use Rattle.command_base.proofs.ConcludeLemmas.{concluded_no_warnings, concluded_not_done}
use Rattle.command_base.proofs.DumpLaws.{fault_left, no_memory_left, unread_left}
use Rattle.objtool_cli.specs.Cfi.{BreaksRule, CfiMayChange, EndsCfi, GetNoFrames, Gets, HasWarnings, IsUnchecked, MayGetFrames, StopsCfi, TellsWarnings, done, has_frames, malformed, no_memory, out_of_memory, refused, stopped, too_many_sections, too_many_symbols, unchecked, unflowed, unlinked, unread, unwritten, warned, without_names}
use Rattle.command_base.specs.Refusing.{IsRefusedOrFails, IsWarnedOrFails, Tells}
use Rattle.command_base.specs.Inputs.{input_refused, input_unread}
use Rattle.objtool_cli.specs.FramesRefused.{RefusesCfi}
use Rattle.command_base.proofs.InputLemmas.{IsKnown, named_in, names_refuse, one_reading, unrefused}
use Rattle.objtool_cli.specs.Written.{OutTellsFrames}
use Rattle.command_base.proofs.Content.{get-insert_same, held_is, written_others}
use Rattle.objtool_cli.proofs.FramesGets.{breaks_unbroken, broken_excluded, gets_excluded, gets_unwarned, warns_breaks}
use Rattle.command_base.proofs.Stops.{concluded_usage, done_not_refused, done_not_warned, is_read, left, left_warned, names_left, names_no_usage, neither, not_memory, of_stop, read_no_usage, unreadable, warned_no_usage, warned_not_done, warned_not_refused, warned_text, write_no_usage, write_not_refused, write_told}

-- ---- what it leaves

out_tells : (map : Map) (input output : List ℕ) (names : Option (List ℕ)) (o : Elf) (rows : List PlacedRow) (file : List ℕ) (before after : Option Content) → MayGetFrames map before input names o rows file → after ≡ writing before output file → OutTellsFrames map input output names before after
out_tells map input output names o rows file None after may e = tt
out_tells map input output names o rows file (Some held) after may e =
    subst (λ (c : Option Content). OutTellsFrames map input output names (Some held) c) (sym e) (record {
      read = may.read;
      held = held_is MAX_FILE_BYTES (get held input) may.read may.is_read.may;
      lists = may.lists;
      named = may.is_read.named;
      object = o;
      is_object = may.gets.is;
      rows = rows;
      has_rows = may.gets.gets.has_rows;
      written = file;
      left = get-insert_same held output file;
      tells = may.tells;
      undoes = may.undoes;
    })

pub frames_told : (map : Map) (input output : List ℕ) (names : Option (List ℕ)) (before after : Outside) (out out' : Output) (x : Status) → EndsCfi map input output names before after out out' x → x ≡ Done → OutTellsFrames map input output names before.content after.content
frames_told map input output names before after out out' Done (done o rows file may e same) is = out_tells map input output names o rows file before.content after.content may e
frames_told map input output names before after out out' x (warned o warnings may kept t) is = absurd (warned_not_done _ out out' x t is)
frames_told map input output names before after out out' x (stopped s h t) is = absurd (concluded_not_done s out out' x t is)

pub cfi_silent : (map : Map) (input output : List ℕ) (names : Option (List ℕ)) (before after : Outside) (out out' : Output) (x : Status) → EndsCfi map input output names before after out out' x → x ≡ Done → out'.written ≡ out.written
cfi_silent map input output names before after out out' Done (done o rows file may e same) is = ap (λ (u : Output). u.written) same
cfi_silent map input output names before after out out' x (warned o warnings may kept t) is = absurd (warned_not_done _ out out' x t is)
cfi_silent map input output names before after out out' x (stopped s h t) is = absurd (concluded_not_done s out out' x t is)

stop_keeps : (s : CommandStop) (map : Map) (input output : List ℕ) (names : Option (List ℕ)) (before after : Outside) (out out' : Output) (x : Status) → StopsCfi map input output names before after s → Concludes s out out' x → x ≢ FileFault → x ≢ NoMemory → after.content ≡ before.content
stop_keeps s map input output names before after out out' x (unread h kept) t f m = kept
stop_keeps s map input output names before after out out' x (without_names read may h kept) t f m = kept
stop_keeps s map input output names before after out out' x (refused read lists is h kept) t f m = kept
stop_keeps s map input output names before after out out' x (unwritten o rows file may h others) t f m = absurd (neither x (write_told s output before after out out' x h t) f m)

pub cfi_unchanged : (map : Map) (input output : List ℕ) (names : Option (List ℕ)) (before after : Outside) (out out' : Output) (x : Status) → EndsCfi map input output names before after out out' x → x ≢ Done → x ≢ FileFault → x ≢ NoMemory → after.content ≡ before.content
cfi_unchanged map input output names before after out out' Done (done o rows file may e same) d f m = absurd (d refl)
cfi_unchanged map input output names before after out out' x (warned o warnings may kept t) d f m = kept
cfi_unchanged map input output names before after out out' x (stopped s h t) d f m = stop_keeps s map input output names before after out out' x h t f m

abbrev Left : Map → List ℕ → List ℕ → Option (List ℕ) → Outside → Outside → Type 0
Left map input output names before after = (after.content ≡ before.content) ⊎ CfiMayChange map input output names before.content after.content

stop_changes : (s : CommandStop) (map : Map) (input output : List ℕ) (names : Option (List ℕ)) (before after : Outside) → StopsCfi map input output names before after s → Left map input output names before after
stop_changes s map input output names before after (unread h kept) = inl kept
stop_changes s map input output names before after (without_names read may h kept) = inl kept
stop_changes s map input output names before after (refused read lists is h kept) = inl kept
stop_changes s map input output names before after (unwritten o rows file may h others) = inr (record { object = o; rows = rows; written = file; may = may; others = others })

pub cfi_changes : (map : Map) (input output : List ℕ) (names : Option (List ℕ)) (before after : Outside) (out out' : Output) (x : Status) → EndsCfi map input output names before after out out' x → Left map input output names before after
cfi_changes map input output names before after out out' Done (done o rows file may e same) = inr (record { object = o; rows = rows; written = file; may = may; others = written_others output file before.content after.content e })
cfi_changes map input output names before after out out' x (warned o warnings may kept t) = inl kept
cfi_changes map input output names before after out out' x (stopped s h t) = stop_changes s map input output names before after h

-- bytes that nothing but want of memory keeps from call frame information, or from their warnings
abbrev IsUnrefused : Map → List ℕ → NameLists → Type 0
IsUnrefused map bytes lists = (s : CommandStop) → GetNoFrames map bytes lists s → s ≡ stop.NoMemory

stop_left : (s : CommandStop) (map : Map) (input output : List ℕ) (names : Option (List ℕ)) (read : List ℕ) (lists : NameLists) (before after : Outside) (out out' : Output) (x : Status) → IsKnown before input names read lists → IsUnrefused map read lists → StopsCfi map input output names before after s → Concludes s out out' x → IsAnswered x
stop_left s map input output names read lists before after out out' x known never (unread h kept) t = unread_left MAX_FILE_BYTES s input read known.held before after out out' x known.told known.is h t
stop_left s map input output names read lists before after out out' x known never (without_names other may h kept) t = names_left s names lists known.held before after out out' x known.told known.named h t
stop_left s map input output names read lists before after out out' x known never (refused other others was h kept) t =
    no_memory_left s out out' x (never s (one_reading (λ b l. GetNoFrames map b l s) before input names read other lists others known was h)) t
stop_left s map input output names read lists before after out out' x known never (unwritten p rows file may h others) t = fault_left x (write_told s output before after out out' x h t)

-- ---- where IN gets call frame information

got_left : OneOutcome → (map : Map) (input output : List ℕ) (names : Option (List ℕ)) (read : List ℕ) (o : Elf) (rows : List PlacedRow) (lists : NameLists) (before after : Outside) (out out' : Output) (x : Status) → IsKnown before input names read lists → Gets map read lists o rows → EndsCfi map input output names before after out out' x → IsAnswered x
got_left one map input output names read o rows lists before after out out' Done known gets (done p others file may e same) = inl refl
got_left one map input output names read o rows lists before after out out' x known gets (warned p warnings may kept t) =
    absurd (gets_unwarned map read lists o p rows warnings gets (one_reading (λ b l. HasWarnings map b l p warnings) before input names read may.read lists may.lists known may.is_read may.warns))
got_left one map input output names read o rows lists before after out out' x known gets (stopped s h t) =
    stop_left s map input output names read lists before after out out' x known (λ u why. gets_excluded one u map read lists o rows gets why) h t

pub cfi_left : OneOutcome → (map : Map) (input output : List ℕ) (names : Option (List ℕ)) (read : List ℕ) (o : Elf) (rows : List PlacedRow) (lists : NameLists) (held : Content) (before after : Outside) (out out' : Output) (x : Status) → before.content ≡ Some held → reading held input MAX_FILE_BYTES ≡ Ok read → HasNames (Some held) names lists → Gets map read lists o rows → EndsCfi map input output names before after out out' x → IsAnswered x
cfi_left one map input output names read o rows lists held before after out out' x c is has gets ends =
    got_left one map input output names read o rows lists before after out out' x (record { held = held; told = c; is = is; named = has }) gets ends

-- ---- warnings

pub cfi_warned : (map : Map) (input output : List ℕ) (names : Option (List ℕ)) (before after : Outside) (out out' : Output) (x : Status) → EndsCfi map input output names before after out out' x → x ≡ Warnings → TellsWarnings map input names before.content out.written out'.written
cfi_warned map input output names before after out out' Done (done o rows file may e same) is = absurd (done_not_warned is)
cfi_warned map input output names before after out out' x (warned o warnings may kept t) is = record { object = o; warnings = warnings; may = may; printed = warned_text _ out out' x t is }
cfi_warned map input output names before after out out' x (stopped s h t) is = absurd (concluded_no_warnings s out out' x t is)

answered_warned : (x : Status) → IsAnswered x → x ≢ Done → IsWarnedOrFails x
answered_warned x (inl is) d = absurd (d is)
answered_warned x (inr (inl is)) d = inr (inl is)
answered_warned x (inr (inr (inl is))) d = inr (inr (inl is))
answered_warned x (inr (inr (inr is))) d = inr (inr (inr is))

broken_left : OneOutcome → (map : Map) (input output : List ℕ) (names : Option (List ℕ)) (read : List ℕ) (lists : NameLists) (before after : Outside) (out out' : Output) (x : Status) → IsKnown before input names read lists → BreaksRule map read lists → EndsCfi map input output names before after out out' x → IsWarnedOrFails x
broken_left one map input output names read lists before after out out' Done known breaks (done o rows file may e same) =
    let gets : Gets map read lists o rows = one_reading (λ b l. Gets map b l o rows) before input names read may.read lists may.lists known may.is_read may.gets in
    absurd (breaks_unbroken map read lists o breaks gets.is gets.gets.unbroken)
broken_left one map input output names read lists before after out out' x known breaks (warned p warnings may kept t) =
    left_warned x (warned_not_done _ out out' x t) (warned_not_refused _ out out' x t) (warned_no_usage _ out out' x t)
broken_left one map input output names read lists before after out out' x known breaks (stopped s h t) =
    answered_warned x (stop_left s map input output names read lists before after out out' x known (λ u why. broken_excluded one u map read lists breaks why) h t) (concluded_not_done s out out' x t)

pub cfi_warns : OneOutcome → (map : Map) (input output : List ℕ) (names : Option (List ℕ)) (read : List ℕ) (lists : NameLists) (held : Content) (before after : Outside) (out out' : Output) (x : Status) → before.content ≡ Some held → reading held input MAX_FILE_BYTES ≡ Ok read → HasNames (Some held) names lists → BreaksRule map read lists → EndsCfi map input output names before after out out' x → IsWarnedOrFails x
cfi_warns one map input output names read lists held before after out out' x c is has breaks ends =
    broken_left one map input output names read lists before after out out' x (record { held = held; told = c; is = is; named = has }) breaks ends

-- ---- where a step refuses

cfi_refuse : (s : CommandStop) (map : Map) (input output : List ℕ) (names : Option (List ℕ)) (held : Content) (before after : Outside) → before.content ≡ Some held → StopsCfi map input output names before after s → status_of s ≡ Refused → RefusesCfi map input names held s
cfi_refuse s map input output names held before after c (unread h kept) e = input_unread (unreadable MAX_FILE_BYTES s input held before after c h e)
cfi_refuse s map input output names held before after c (without_names read may h kept) e =
    names_refuse (GetNoFrames map) s input names held read before after c may h e
cfi_refuse s map input output names held before after c (refused read lists was h kept) e =
    input_refused read lists (is_read MAX_FILE_BYTES input read held before.content c was.may) (named_in names held before.content lists c was.named) h (not_memory s e)
cfi_refuse s map input output names held before after c (unwritten o rows file may h others) e = absurd (write_not_refused s output before after h e)

pub cfi_told : (map : Map) (input output : List ℕ) (names : Option (List ℕ)) (held : Content) (before after : Outside) (out out' : Output) (x : Status) → before.content ≡ Some held → EndsCfi map input output names before after out out' x → x ≡ Refused → Tells (RefusesCfi map input names held) out.written out'.written
cfi_told map input output names held before after out out' Done c (done o rows file may e same) is = absurd (done_not_refused is)
cfi_told map input output names held before after out out' x c (warned o warnings may kept t) is = absurd (warned_not_refused _ out out' x t is)
cfi_told map input output names held before after out out' x c (stopped s h t) is =
    of_stop (RefusesCfi map input names held) s out out' x t is (λ at. cfi_refuse s map input output names held before after c h at)

refused_not_done : OneOutcome → (s : CommandStop) (map : Map) (input output : List ℕ) (names : Option (List ℕ)) (held : Content) (before after : Outside) (out out' : Output) (x : Status) → before.content ≡ Some held → RefusesCfi map input names held s → EndsCfi map input output names before after out out' x → x ≢ Done
refused_not_done one s map input output names held before after out out' Done c why (done o rows file may e same) is =
    unrefused (GetNoFrames map) s input names held may.read may.lists (is_read MAX_FILE_BYTES input may.read held before.content c may.is_read.may) (named_in names held before.content may.lists c may.is_read.named)
    (λ u no. gets_excluded one u map may.read may.lists o rows may.gets no) why
refused_not_done one s map input output names held before after out out' x c why (warned o warnings may kept t) is = warned_not_done _ out out' x t is
refused_not_done one s map input output names held before after out out' x c why (stopped told h t) is = concluded_not_done told out out' x t is

refused_not_warned : OneOutcome → (s : CommandStop) (map : Map) (input output : List ℕ) (names : Option (List ℕ)) (held : Content) (before after : Outside) (out out' : Output) (x : Status) → before.content ≡ Some held → RefusesCfi map input names held s → EndsCfi map input output names before after out out' x → x ≢ Warnings
refused_not_warned one s map input output names held before after out out' Done c why (done o rows file may e same) is = done_not_warned is
refused_not_warned one s map input output names held before after out out' x c why (warned o warnings may kept t) is =
    unrefused (GetNoFrames map) s input names held may.read may.lists (is_read MAX_FILE_BYTES input may.read held before.content c may.is_read.may) (named_in names held before.content may.lists c may.is_read.named)
    (λ u no. broken_excluded one u map may.read may.lists (warns_breaks map may.read may.lists o warnings may.warns) no) why
refused_not_warned one s map input output names held before after out out' x c why (stopped told h t) is = concluded_no_warnings told out out' x t is

-- ---- usage

unchecked_no_usage : (s : CommandStop) (map : Map) (lists : NameLists) (o : Elf) → IsUnchecked map lists o s → status_of s ≢ Usage
unchecked_no_usage s map lists o (unlinked why worded) e = cc
unchecked_no_usage s map lists o (unflowed why) e = cc
unchecked_no_usage s map lists o (has_frames order at) e = cc
unchecked_no_usage s map lists o (too_many_sections order new many count) e = cc
unchecked_no_usage s map lists o out_of_memory e = cc

gets_no_usage : (s : CommandStop) (map : Map) (bytes : List ℕ) (lists : NameLists) → GetNoFrames map bytes lists s → status_of s ≢ Usage
gets_no_usage s map bytes lists (malformed fault) e = cc
gets_no_usage s map bytes lists (unchecked o is why) e = unchecked_no_usage s map lists o why e
gets_no_usage s map bytes lists (too_many_symbols o rows is can unbroken has many count) e = cc
gets_no_usage s map bytes lists no_memory e = cc

stop_no_usage : (s : CommandStop) (map : Map) (input output : List ℕ) (names : Option (List ℕ)) (before after : Outside) → StopsCfi map input output names before after s → status_of s ≢ Usage
stop_no_usage s map input output names before after (unread h kept) e = read_no_usage MAX_FILE_BYTES s input before after h e
stop_no_usage s map input output names before after (without_names read may h kept) e = names_no_usage s names before after h e
stop_no_usage s map input output names before after (refused read lists was h kept) e = gets_no_usage s map read lists h e
stop_no_usage s map input output names before after (unwritten o rows file may h others) e = write_no_usage s output before after h e

not_usage : Done ≢ Usage
not_usage e = cc

cfi_no_usage : (map : Map) (input output : List ℕ) (names : Option (List ℕ)) (before after : Outside) (out out' : Output) (x : Status) → EndsCfi map input output names before after out out' x → x ≢ Usage
cfi_no_usage map input output names before after out out' Done (done o rows file may e same) is = not_usage is
cfi_no_usage map input output names before after out out' x (warned o warnings may kept t) is = warned_no_usage _ out out' x t is
cfi_no_usage map input output names before after out out' x (stopped s h t) is = stop_no_usage s map input output names before after h (concluded_usage s out out' x t is)

pub cfi_refused : OneOutcome → (map : Map) (input output : List ℕ) (names : Option (List ℕ)) (held : Content) (before after : Outside) (out out' : Output) (x : Status) (s : CommandStop) → EndsCfi map input output names before after out out' x → before.content ≡ Some held → RefusesCfi map input names held s → IsRefusedOrFails x
cfi_refused one map input output names held before after out out' x s ends c why =
    left x (refused_not_done one s map input output names held before after out out' x c why ends) (refused_not_warned one s map input output names held before after out out' x c why ends) (cfi_no_usage map input output names before after out out' x ends)
