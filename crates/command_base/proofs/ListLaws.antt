-- What follows from how `list` ends.
use Rattle.std.proofs.Common.{◌≡◌, ℕ, List, refl, ◌∙◌, subst}
use Rattle.std.specs.Prelude.{◌≢◌, Option, Some, Ok}
use Rattle.ot_files.specs.Causes.{Rose}
use Rattle.ot_files.specs.Content.{Content, reading}
use Rattle.elf_objects.specs.declared.TheConstants.{MAX_FILE_BYTES}
use Rattle.elf_objects.specs.declared.fault.ElfFault.{ElfFault}
use Rattle.elf_objects.specs.Elf.{Elf}
use Rattle.elf_objects.specs.Object as object
use Rattle.elf_objects.specs.Object.{IsObject}
use Rattle.elf_objects.proofs.FirstFault.{FirstFault-not}
use Rattle.site_lists.specs.Faults as sites
use Rattle.site_lists.specs.Listed.{Listed}
use Rattle.site_lists.specs.Sections.{HoldsSites}
use Rattle.site_lists.specs.declared.fault.SitesFault.{SitesFault}
use Rattle.site_lists.specs.declared.fault.SitesFault.TheVariants as sites_fault
use Rattle.site_lists.proofs.Excluded.{fault_excludes}
use Rattle.command_base.specs.Dump.{IsAnswered}
use Rattle.command_base.specs.Outside.{Outside, Output}
use Rattle.command_base.specs.Reading.{MayRead, parse_stop, sites_stop}
use Rattle.command_base.specs.Stop.{status_of}
use Rattle.command_base.specs.declared.status.Status.{Status}
use Rattle.command_base.specs.declared.status.Status.TheVariants.{Done, Warnings, Refused, Usage, FileFault, SinkFault}
use Rattle.command_base.specs.declared.stop.CommandStop.{CommandStop}
use Rattle.command_base.specs.declared.stop.CommandStop.TheVariants as stop
use Rattle.command_base.proofs.ConcludeLemmas.{concluded_fault, concluded_no_warnings, concluded_not_done, concluded_sink_fault, printed_fault, printed_sink_fault, printed_warnings}
use Rattle.command_base.proofs.DumpLaws.{no_memory_left, not_file_fault, not_sink_fault, not_warnings, one_object, printed_done, read_fault, same_read, text_left, told_read, unread_left}
use Rattle.command_base.proofs.FaultStops.{fault_of, of_parse}
use Rattle.command_base.specs.List.{EndsList, HoldsLists, HoldsNoLists, IsListed, ListsBytes, lists_text, malformed, no_lists, no_memory, printed, read, stopped, unread}
use Rattle.command_base.specs.Refusing.{IsRefusedOrFails, Tells}
use Rattle.command_base.specs.ListRefused.{RefusesList, object_unread, without_lists}
use Rattle.command_base.proofs.Stops.{concluded_usage, done_no_usage, done_not_refused, is_read, left, not_memory, of_stop, one_text, read_no_usage, readable, unreadable, whole_text}

-- ---- from the faults of those who read FILE

pub no_object : (bytes : List ℕ) (e : ElfFault) → object.Refuses (object.FirstFault bytes) e → HoldsNoLists bytes (parse_stop e)
no_object bytes e h = of_parse (HoldsNoLists bytes) bytes e (λ first fault. malformed fault) no_memory h

pub no_lists_held : (bytes : List ℕ) (o : Elf) (e : SitesFault) → IsObject bytes o → sites.Refuses o e → HoldsNoLists bytes (sites_stop e)
no_lists_held bytes o (sites_fault.NoSection which) is h = no_lists o is (fault_of h (λ x. cc))
no_lists_held bytes o (sites_fault.BadLength which len) is h = no_lists o is (fault_of h (λ x. cc))
no_lists_held bytes o (sites_fault.BadSlot which slot why) is h = no_lists o is (fault_of h (λ x. cc))
no_lists_held bytes o sites_fault.NoMemory is h = no_memory

-- what is told of the bytes that were read
pub listed_as : (one other : List ℕ) (before after : Output) (x : Status) → one ≡ other → ListsBytes one before after x → ListsBytes other before after x
listed_as one other before after x same h = subst (λ (bytes : List ℕ). ListsBytes bytes before after x) same h

-- ---- where it is done

bytes_listed : (file bytes : List ℕ) (content : Option Content) (before after : Output) (x : Status) → MayRead MAX_FILE_BYTES content file (Ok bytes) → ListsBytes bytes before after x → x ≡ Done → IsListed file content before.written after.written
bytes_listed file bytes content before after x may (printed o lists held t) e = record { bytes = bytes; may = may; object = o; lists = lists; held = held; printed = printed_done (lists_text o lists) before after x t e }
bytes_listed file bytes content before after x may (stopped s h t) e = absurd (concluded_not_done s before after x t e)

pub listed_file : (file : List ℕ) (before after : Outside) (out out' : Output) (x : Status) → EndsList file before after out out' x → x ≡ Done → IsListed file before.content out.written out'.written
listed_file file before after out out' x (unread s h t) e = absurd (concluded_not_done s out out' x t e)
listed_file file before after out out' x (read bytes may h) e = bytes_listed file bytes before.content out out' x may h e

-- ---- where FILE holds lists

pub no_lists_excluded : (bytes : List ℕ) (o : Elf) (lists : Listed) (s : CommandStop) → HoldsLists bytes o lists → HoldsNoLists bytes s → s ≡ stop.NoMemory
no_lists_excluded bytes o lists s held (malformed fault) = absurd (FirstFault-not bytes _ fault held.object.well_formed)
no_lists_excluded bytes o lists s held (no_lists p is fault) = absurd (fault_excludes p lists _ fault (subst (λ (x : Elf). HoldsSites x lists) (one_object bytes o p held.object is) held.held))
no_lists_excluded bytes o lists s held no_memory = refl

bytes_left : (bytes : List ℕ) (o : Elf) (lists : Listed) (before after : Output) (x : Status) → HoldsLists bytes o lists → ListsBytes bytes before after x → IsAnswered x
bytes_left bytes o lists before after x held (printed p others h t) = text_left _ before after x t
bytes_left bytes o lists before after x held (stopped s h t) = no_memory_left s before after x (no_lists_excluded bytes o lists s held h) t

pub list_left : (file bytes : List ℕ) (o : Elf) (lists : Listed) (content : Content) (before after : Outside) (out out' : Output) (x : Status) → before.content ≡ Some content → reading content file MAX_FILE_BYTES ≡ Ok bytes → HoldsLists bytes o lists → EndsList file before after out out' x → IsAnswered x
list_left file bytes o lists content before after out out' x c is held (unread s h t) = unread_left MAX_FILE_BYTES s file bytes content before after out out' x c is h t
list_left file bytes o lists content before after out out' x c is held (read other may h) =
    let same = same_read other bytes (told_read MAX_FILE_BYTES before.content content file _ c may ∙ is) in
    bytes_left bytes o lists out out' x held (subst (λ (b : List ℕ). ListsBytes b out out' x) same h)

-- ---- where a step refuses

bytes_told : (file bytes : List ℕ) (held : Content) (out out' : Output) (x : Status) → reading held file MAX_FILE_BYTES ≡ Ok bytes → ListsBytes bytes out out' x → x ≡ Refused → Tells (RefusesList file held) out.written out'.written
bytes_told file bytes held out out' x is (printed o lists holds t) e = absurd (done_not_refused (whole_text Done _ out out' x t e).0)
bytes_told file bytes held out out' x is (stopped s h t) e = of_stop (RefusesList file held) s out out' x t e (λ at. without_lists bytes is h (not_memory s at))

pub list_told : (file : List ℕ) (held : Content) (before after : Outside) (out out' : Output) (x : Status) → before.content ≡ Some held → EndsList file before after out out' x → x ≡ Refused → Tells (RefusesList file held) out.written out'.written
list_told file held before after out out' x c (unread s h t) e = of_stop (RefusesList file held) s out out' x t e (λ at. object_unread (unreadable MAX_FILE_BYTES s file held before after c h at))
list_told file held before after out out' x c (read bytes may h) e = bytes_told file bytes held out out' x (is_read MAX_FILE_BYTES file bytes held before.content c may) h e

refused_not_listed : (s : CommandStop) (file : List ℕ) (held : Content) (content : Option Content) (before after : Option (List ℕ)) → content ≡ Some held → RefusesList file held s → IsListed file content before after → ⊥
refused_not_listed s file held content before after c (object_unread h) d = readable MAX_FILE_BYTES s held file d.bytes h (is_read MAX_FILE_BYTES file d.bytes held content c d.may)
refused_not_listed s file held content before after c (without_lists bytes is h other) d =
    other (no_lists_excluded bytes d.object d.lists s (subst (λ (b : List ℕ). HoldsLists b d.object d.lists) (one_text MAX_FILE_BYTES held file d.bytes bytes (is_read MAX_FILE_BYTES file d.bytes held content c d.may) is) d.held) h)

-- ---- the other statuses

bytes_warnings : (bytes : List ℕ) (before after : Output) (x : Status) → ListsBytes bytes before after x → x ≢ Warnings
bytes_warnings bytes before after x (printed o lists held t) e = not_warnings (printed_warnings Done _ before after x t e)
bytes_warnings bytes before after x (stopped s h t) e = concluded_no_warnings s before after x t e

pub list_no_warnings : (file : List ℕ) (before after : Outside) (out out' : Output) (x : Status) → EndsList file before after out out' x → x ≢ Warnings
list_no_warnings file before after out out' x (unread s h t) e = concluded_no_warnings s out out' x t e
list_no_warnings file before after out out' x (read bytes may h) e = bytes_warnings bytes out out' x h e

no_lists_usage : (s : CommandStop) (bytes : List ℕ) → HoldsNoLists bytes s → status_of s ≢ Usage
no_lists_usage s bytes (malformed fault) e = cc
no_lists_usage s bytes (no_lists o is fault) e = cc
no_lists_usage s bytes no_memory e = cc

bytes_usage : (bytes : List ℕ) (before after : Output) (x : Status) → ListsBytes bytes before after x → x ≢ Usage
bytes_usage bytes before after x (printed o lists held t) e = done_no_usage _ before after x t e
bytes_usage bytes before after x (stopped s h t) e = no_lists_usage s bytes h (concluded_usage s before after x t e)

pub list_no_usage : (file : List ℕ) (before after : Outside) (out out' : Output) (x : Status) → EndsList file before after out out' x → x ≢ Usage
list_no_usage file before after out out' x (unread s h t) e = read_no_usage MAX_FILE_BYTES s file before after h (concluded_usage s out out' x t e)
list_no_usage file before after out out' x (read bytes may h) e = bytes_usage bytes out out' x h e

pub list_refused : (file : List ℕ) (held : Content) (before after : Outside) (out out' : Output) (x : Status) (s : CommandStop) → EndsList file before after out out' x → before.content ≡ Some held → RefusesList file held s → IsRefusedOrFails x
list_refused file held before after out out' x s ends c why =
    left x
    (λ e. refused_not_listed s file held before.content out.written out'.written c why (listed_file file before after out out' x ends e))
    (list_no_warnings file before after out out' x ends)
    (list_no_usage file before after out out' x ends)

-- ---- faults

no_lists_fault : (s : CommandStop) (bytes : List ℕ) → HoldsNoLists bytes s → status_of s ≢ FileFault
no_lists_fault s bytes (malformed fault) e = cc
no_lists_fault s bytes (no_lists o is fault) e = cc
no_lists_fault s bytes no_memory e = cc

bytes_fault : (bytes : List ℕ) (before after : Output) (x : Status) → ListsBytes bytes before after x → x ≢ FileFault
bytes_fault bytes before after x (printed o lists held t) e = not_file_fault (printed_fault Done _ before after x t e)
bytes_fault bytes before after x (stopped s h t) e = no_lists_fault s bytes h (concluded_fault s before after x t e)

-- a fault of a file is answered only where its count rose
pub list_fault : (file : List ℕ) (before after : Outside) (out out' : Output) (x : Status) → EndsList file before after out out' x → x ≡ FileFault → Rose before.faults after.faults
list_fault file before after out out' x (unread s h t) e = read_fault MAX_FILE_BYTES s file before after h (concluded_fault s out out' x t e)
list_fault file before after out out' x (read bytes may h) e = absurd (bytes_fault bytes out out' x h e)

bytes_sink_fault : (bytes : List ℕ) (before after : Output) (x : Status) → ListsBytes bytes before after x → x ≡ SinkFault → Rose before.faults after.faults
bytes_sink_fault bytes before after x (printed o lists held t) e = printed_sink_fault Done _ before after x t not_sink_fault e
bytes_sink_fault bytes before after x (stopped s h t) e = concluded_sink_fault s before after x t e

-- and a fault of the output
pub list_sink_fault : (file : List ℕ) (before after : Outside) (out out' : Output) (x : Status) → EndsList file before after out out' x → x ≡ SinkFault → Rose out.faults out'.faults
list_sink_fault file before after out out' x (unread s h t) e = concluded_sink_fault s out out' x t e
list_sink_fault file before after out out' x (read bytes may h) e = bytes_sink_fault bytes out out' x h e
