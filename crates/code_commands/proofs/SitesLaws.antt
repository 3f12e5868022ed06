-- What follows from how `sites` ends.
use Rattle.std.proofs.Common.{◌≡◌, ℕ, List, refl, sym, ap, subst, inl, inr}
use Rattle.std.specs.Prelude.{◌≢◌, ◌⊎◌, Option, Some, None, Ok}
use Rattle.std.specs.FinMap.{get}
use Rattle.ot_base.specs.NameLists.{NameLists}
use Rattle.ot_files.specs.Causes.{Rose}
use Rattle.ot_files.specs.Content.{Content, reading, writing}
use Rattle.elf_objects.specs.declared.TheConstants.{MAX_FILE_BYTES}
use Rattle.elf_objects.specs.Elf.{Elf}
use Rattle.elf_objects.specs.Object.{IsObject}
use Rattle.x86_decode.specs.Decoding.{OneOutcome}
use Rattle.x86_map.specs.declared.map.Map.{Map}
use Rattle.site_lists.specs.declared.options.ListOptions.{ListOptions}
use Rattle.flow_defs.specs.Coded.{coded_by}
use Rattle.command_base.specs.Dump.{IsAnswered}
use Rattle.command_base.specs.Names.{HasNames}
use Rattle.command_base.specs.Outside.{Outside, Output}
use Rattle.command_base.specs.Printing.{Concludes}
use Rattle.command_base.specs.Stop.{status_of}
use Rattle.command_base.specs.declared.status.Status.{Status}
use Rattle.command_base.specs.declared.status.Status.TheVariants.{Done, Warnings, Refused, Usage, FileFault, SinkFault, NoMemory}
use Rattle.command_base.specs.declared.stop.CommandStop.{CommandStop}
use Rattle.command_base.proofs.ConcludeLemmas.{concluded_fault, concluded_no_warnings, concluded_not_done, concluded_sink_fault}
use Rattle.command_base.proofs.DumpLaws.{fault_left, no_memory_left, read_fault, unread_left}
use Rattle.code_commands.specs.SitesOrder.{GetsSites}
use Rattle.command_base.specs.Refusing.{IsRefusedOrFails, Tells}
use Rattle.command_base.specs.Inputs.{input_refused, input_unread}
use Rattle.code_commands.specs.SitesRefused.{RefusesSites}
use Rattle.command_base.proofs.InputLemmas.{IsKnown, named_in, names_refuse, one_reading, unrefused}
use Rattle.code_commands.specs.Sites.{EndsSites, GetNoSites, MayGetSites, OutListsSites, SitesMayChange, StopsSites, done, has_sites, malformed, no_memory, refused, stopped, too_many_sections, too_many_symbols, unflowed, unlinked, unread, unwritten, without_names}
use Rattle.command_base.proofs.Content.{get-insert_same, held_is, written_others}
use Rattle.code_commands.proofs.SitesGets.{gets_excluded}
use Rattle.command_base.proofs.Stops.{concluded_usage, done_not_refused, is_read, left, names_fault, names_left, names_no_usage, neither, not_memory, of_stop, read_no_usage, unreadable, write_fault, write_no_usage, write_not_refused, write_told}

-- ---- what it leaves

out_lists : (options : ListOptions) (map : Map) (input output : List ℕ) (names : Option (List ℕ)) (o : Elf) (file : List ℕ) (before after : Option Content) → MayGetSites options map before input names o file → after ≡ writing before output file → OutListsSites options map input output before after
out_lists options map input output names o file None after may e = tt
out_lists options map input output names o file (Some held) after may e =
    subst (λ (c : Option Content). OutListsSites options map input output (Some held) c) (sym e) (record {
      read = may.read;
      held = held_is MAX_FILE_BYTES (get held input) may.read may.is_read.may;
      object = o;
      is_object = may.is;
      written = file;
      left = get-insert_same held output file;
      lists = may.lists;
    })

pub sites_listed : (options : ListOptions) (map : Map) (input output : List ℕ) (names : Option (List ℕ)) (before after : Outside) (out out' : Output) (x : Status) → EndsSites options map input output names before after out out' x → x ≡ Done → OutListsSites options map input output before.content after.content
sites_listed options map input output names before after out out' Done (done o file may e same) is = out_lists options map input output names o file before.content after.content may e
sites_listed options map input output names before after out out' x (stopped s h t) is = absurd (concluded_not_done s out out' x t is)

pub sites_silent : (options : ListOptions) (map : Map) (input output : List ℕ) (names : Option (List ℕ)) (before after : Outside) (out out' : Output) (x : Status) → EndsSites options map input output names before after out out' x → x ≡ Done → out'.written ≡ out.written
sites_silent options map input output names before after out out' Done (done o file may e same) is = ap (λ (u : Output). u.written) same
sites_silent options map input output names before after out out' x (stopped s h t) is = absurd (concluded_not_done s out out' x t is)

stop_keeps : (s : CommandStop) (options : ListOptions) (map : Map) (input output : List ℕ) (names : Option (List ℕ)) (before after : Outside) (out out' : Output) (x : Status) → StopsSites options map input output names before after s → Concludes s out out' x → x ≢ FileFault → x ≢ NoMemory → after.content ≡ before.content
stop_keeps s options map input output names before after out out' x (unread h kept) t f m = kept
stop_keeps s options map input output names before after out out' x (without_names read may h kept) t f m = kept
stop_keeps s options map input output names before after out out' x (refused read lists is h kept) t f m = kept
stop_keeps s options map input output names before after out out' x (unwritten o file may h others) t f m = absurd (neither x (write_told s output before after out out' x h t) f m)

pub sites_unchanged : (options : ListOptions) (map : Map) (input output : List ℕ) (names : Option (List ℕ)) (before after : Outside) (out out' : Output) (x : Status) → EndsSites options map input output names before after out out' x → x ≢ Done → x ≢ FileFault → x ≢ NoMemory → after.content ≡ before.content
sites_unchanged options map input output names before after out out' Done (done o file may e same) d f m = absurd (d refl)
sites_unchanged options map input output names before after out out' x (stopped s h t) d f m = stop_keeps s options map input output names before after out out' x h t f m

abbrev Left : ListOptions → Map → List ℕ → List ℕ → Option (List ℕ) → Outside → Outside → Type 0
Left options map input output names before after = (after.content ≡ before.content) ⊎ SitesMayChange options map input output names before.content after.content

stop_changes : (s : CommandStop) (options : ListOptions) (map : Map) (input output : List ℕ) (names : Option (List ℕ)) (before after : Outside) → StopsSites options map input output names before after s → Left options map input output names before after
stop_changes s options map input output names before after (unread h kept) = inl kept
stop_changes s options map input output names before after (without_names read may h kept) = inl kept
stop_changes s options map input output names before after (refused read lists is h kept) = inl kept
stop_changes s options map input output names before after (unwritten o file may h others) = inr (record { object = o; written = file; may = may; others = others })

pub sites_changes : (options : ListOptions) (map : Map) (input output : List ℕ) (names : Option (List ℕ)) (before after : Outside) (out out' : Output) (x : Status) → EndsSites options map input output names before after out out' x → Left options map input output names before after
sites_changes options map input output names before after out out' Done (done o file may e same) = inr (record { object = o; written = file; may = may; others = written_others output file before.content after.content e })
sites_changes options map input output names before after out out' x (stopped s h t) = stop_changes s options map input output names before after h

-- ---- where IN gets site lists

stop_left : OneOutcome → (s : CommandStop) (options : ListOptions) (map : Map) (input output : List ℕ) (names : Option (List ℕ)) (read : List ℕ) (o : Elf) (lists : NameLists) (held : Content) (before after : Outside) (out out' : Output) (x : Status) → before.content ≡ Some held → reading held input MAX_FILE_BYTES ≡ Ok read → HasNames (Some held) names lists → IsObject read o → GetsSites options (coded_by map o) lists → StopsSites options map input output names before after s → Concludes s out out' x → IsAnswered x
stop_left one s options map input output names read o lists held before after out out' x c is has of gets (unread h kept) t = unread_left MAX_FILE_BYTES s input read held before after out out' x c is h t
stop_left one s options map input output names read o lists held before after out out' x c is has of gets (without_names other may h kept) t = names_left s names lists held before after out out' x c has h t
stop_left one s options map input output names read o lists held before after out out' x c is has of gets (refused other others was h kept) t =
    let known : IsKnown before input names read lists = record { held = held; told = c; is = is; named = has } in
    no_memory_left s out out' x (gets_excluded one s options map read lists o of gets (one_reading (λ b l. GetNoSites options map b l s) before input names read other lists others known was h)) t
stop_left one s options map input output names read o lists held before after out out' x c is has of gets (unwritten p file may h others) t = fault_left x (write_told s output before after out out' x h t)

pub sites_left : OneOutcome → (options : ListOptions) (map : Map) (input output : List ℕ) (names : Option (List ℕ)) (read : List ℕ) (o : Elf) (lists : NameLists) (held : Content) (before after : Outside) (out out' : Output) (x : Status) → before.content ≡ Some held → reading held input MAX_FILE_BYTES ≡ Ok read → HasNames (Some held) names lists → IsObject read o → GetsSites options (coded_by map o) lists → EndsSites options map input output names before after out out' x → IsAnswered x
sites_left one options map input output names read o lists held before after out out' Done c is has of gets (done p file may e same) = inl refl
sites_left one options map input output names read o lists held before after out out' x c is has of gets (stopped s h t) = stop_left one s options map input output names read o lists held before after out out' x c is has of gets h t

-- ---- where a step refuses

sites_refuse : (s : CommandStop) (options : ListOptions) (map : Map) (input output : List ℕ) (names : Option (List ℕ)) (held : Content) (before after : Outside) → before.content ≡ Some held → StopsSites options map input output names before after s → status_of s ≡ Refused → RefusesSites options map input names held s
sites_refuse s options map input output names held before after c (unread h kept) e = input_unread (unreadable MAX_FILE_BYTES s input held before after c h e)
sites_refuse s options map input output names held before after c (without_names read may h kept) e =
    names_refuse (GetNoSites options map) s input names held read before after c may h e
sites_refuse s options map input output names held before after c (refused read lists was h kept) e =
    input_refused read lists (is_read MAX_FILE_BYTES input read held before.content c was.may) (named_in names held before.content lists c was.named) h (not_memory s e)
sites_refuse s options map input output names held before after c (unwritten o file may h others) e = absurd (write_not_refused s output before after h e)

pub sites_told : (options : ListOptions) (map : Map) (input output : List ℕ) (names : Option (List ℕ)) (held : Content) (before after : Outside) (out out' : Output) (x : Status) → before.content ≡ Some held → EndsSites options map input output names before after out out' x → x ≡ Refused → Tells (RefusesSites options map input names held) out.written out'.written
sites_told options map input output names held before after out out' Done c (done o file may e same) is = absurd (done_not_refused is)
sites_told options map input output names held before after out out' x c (stopped s h t) is =
    of_stop (RefusesSites options map input names held) s out out' x t is (λ at. sites_refuse s options map input output names held before after c h at)

refused_not_done : OneOutcome → (s : CommandStop) (options : ListOptions) (map : Map) (input output : List ℕ) (names : Option (List ℕ)) (held : Content) (before after : Outside) (out out' : Output) (x : Status) → before.content ≡ Some held → RefusesSites options map input names held s → EndsSites options map input output names before after out out' x → x ≢ Done
refused_not_done one s options map input output names held before after out out' Done c why (done o file may e same) is =
    unrefused (GetNoSites options map) s input names held may.read may.under (is_read MAX_FILE_BYTES input may.read held before.content c may.is_read.may) (named_in names held before.content may.under c may.is_read.named)
    (λ t no. gets_excluded one t options map may.read may.under o may.is may.gets no) why
refused_not_done one s options map input output names held before after out out' x c why (stopped told h t) is = concluded_not_done told out out' x t is

-- ---- the other statuses

not_warnings : Done ≢ Warnings
not_warnings e = cc

pub sites_no_warnings : (options : ListOptions) (map : Map) (input output : List ℕ) (names : Option (List ℕ)) (before after : Outside) (out out' : Output) (x : Status) → EndsSites options map input output names before after out out' x → x ≢ Warnings
sites_no_warnings options map input output names before after out out' Done (done o file may e same) is = not_warnings is
sites_no_warnings options map input output names before after out out' x (stopped s h t) is = concluded_no_warnings s out out' x t is

gets_no_usage : (s : CommandStop) (options : ListOptions) (map : Map) (bytes : List ℕ) (lists : NameLists) → GetNoSites options map bytes lists s → status_of s ≢ Usage
gets_no_usage s options map bytes lists (malformed fault) e = cc
gets_no_usage s options map bytes lists (unlinked o is some why worded) e = cc
gets_no_usage s options map bytes lists (unflowed o is some linked why) e = cc
gets_no_usage s options map bytes lists (has_sites o is order at) e = cc
gets_no_usage s options map bytes lists (too_many_sections o is order new many) e = cc
gets_no_usage s options map bytes lists (too_many_symbols o is order new few many count) e = cc
gets_no_usage s options map bytes lists no_memory e = cc

stop_no_usage : (s : CommandStop) (options : ListOptions) (map : Map) (input output : List ℕ) (names : Option (List ℕ)) (before after : Outside) → StopsSites options map input output names before after s → status_of s ≢ Usage
stop_no_usage s options map input output names before after (unread h kept) e = read_no_usage MAX_FILE_BYTES s input before after h e
stop_no_usage s options map input output names before after (without_names read may h kept) e = names_no_usage s names before after h e
stop_no_usage s options map input output names before after (refused read lists was h kept) e = gets_no_usage s options map read lists h e
stop_no_usage s options map input output names before after (unwritten o file may h others) e = write_no_usage s output before after h e

not_usage : Done ≢ Usage
not_usage e = cc

pub sites_no_usage : (options : ListOptions) (map : Map) (input output : List ℕ) (names : Option (List ℕ)) (before after : Outside) (out out' : Output) (x : Status) → EndsSites options map input output names before after out out' x → x ≢ Usage
sites_no_usage options map input output names before after out out' Done (done o file may e same) is = not_usage is
sites_no_usage options map input output names before after out out' x (stopped s h t) is = stop_no_usage s options map input output names before after h (concluded_usage s out out' x t is)

pub sites_refused : OneOutcome → (options : ListOptions) (map : Map) (input output : List ℕ) (names : Option (List ℕ)) (held : Content) (before after : Outside) (out out' : Output) (x : Status) (s : CommandStop) → EndsSites options map input output names before after out out' x → before.content ≡ Some held → RefusesSites options map input names held s → IsRefusedOrFails x
sites_refused one options map input output names held before after out out' x s ends c why =
    left x (refused_not_done one s options map input output names held before after out out' x c why ends) (sites_no_warnings options map input output names before after out out' x ends) (sites_no_usage options map input output names before after out out' x ends)

-- ---- faults

gets_no_fault : (s : CommandStop) (options : ListOptions) (map : Map) (bytes : List ℕ) (lists : NameLists) → GetNoSites options map bytes lists s → status_of s ≢ FileFault
gets_no_fault s options map bytes lists (malformed fault) e = cc
gets_no_fault s options map bytes lists (unlinked o is some why worded) e = cc
gets_no_fault s options map bytes lists (unflowed o is some linked why) e = cc
gets_no_fault s options map bytes lists (has_sites o is order at) e = cc
gets_no_fault s options map bytes lists (too_many_sections o is order new many) e = cc
gets_no_fault s options map bytes lists (too_many_symbols o is order new few many count) e = cc
gets_no_fault s options map bytes lists no_memory e = cc

stop_fault : (s : CommandStop) (options : ListOptions) (map : Map) (input output : List ℕ) (names : Option (List ℕ)) (before after : Outside) → StopsSites options map input output names before after s → status_of s ≡ FileFault → Rose before.faults after.faults
stop_fault s options map input output names before after (unread h kept) e = read_fault MAX_FILE_BYTES s input before after h e
stop_fault s options map input output names before after (without_names read may h kept) e = names_fault s names before after h e
stop_fault s options map input output names before after (refused read lists was h kept) e = absurd (gets_no_fault s options map read lists h e)
stop_fault s options map input output names before after (unwritten o file may h others) e = write_fault s output before after h e

not_file_fault : Done ≢ FileFault
not_file_fault e = cc

not_sink_fault : Done ≢ SinkFault
not_sink_fault e = cc

-- a fault of a file is answered only where its count rose
pub sites_fault : (options : ListOptions) (map : Map) (input output : List ℕ) (names : Option (List ℕ)) (before after : Outside) (out out' : Output) (x : Status) → EndsSites options map input output names before after out out' x → x ≡ FileFault → Rose before.faults after.faults
sites_fault options map input output names before after out out' Done (done o file may e same) is = absurd (not_file_fault is)
sites_fault options map input output names before after out out' x (stopped s h t) is = stop_fault s options map input output names before after h (concluded_fault s out out' x t is)

-- and a fault of the output
pub sites_sink_fault : (options : ListOptions) (map : Map) (input output : List ℕ) (names : Option (List ℕ)) (before after : Outside) (out out' : Output) (x : Status) → EndsSites options map input output names before after out out' x → x ≡ SinkFault → Rose out.faults out'.faults
sites_sink_fault options map input output names before after out out' Done (done o file may e same) is = absurd (not_sink_fault is)
sites_sink_fault options map input output names before after out out' x (stopped s h t) is = concluded_sink_fault s out out' x t is
