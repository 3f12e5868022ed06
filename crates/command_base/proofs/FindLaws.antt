-- What follows from how `find` ends.
use Rattle.std.proofs.Common.{◌≡◌, ℕ, List, refl, sym, ap, ◌∙◌, subst}
use Rattle.std.specs.Prelude.{◌≢◌, Option, Some, None, Ok}
use Rattle.ot_files.specs.Causes.{Rose}
use Rattle.ot_files.specs.Content.{Content, reading}
use Rattle.elf_objects.specs.declared.TheConstants.{MAX_FILE_BYTES}
use Rattle.table_defs.specs.Lookup.{AddressedRow}
use Rattle.orc_merge.specs.TableFaults.{IsTableFault, first_bad}
use Rattle.orc_merge.specs.declared.faults.TableFault.{TableFault}
use Rattle.orc_merge.specs.declared.faults.TableFault.TheVariants as fault
use Rattle.orc_merge.proofs.Written.{accepted}
use Rattle.command_base.specs.Dump.{IsAnswered}
use Rattle.command_base.specs.Outside.{Outside, Output}
use Rattle.command_base.specs.Reading.{MayRead, table_stop}
use Rattle.command_base.specs.Stop.{status_of}
use Rattle.command_base.specs.declared.status.Status.{Status}
use Rattle.command_base.specs.declared.status.Status.TheVariants.{Done, Warnings, Refused, Usage, FileFault, SinkFault}
use Rattle.command_base.specs.declared.stop.CommandStop.{CommandStop}
use Rattle.command_base.specs.declared.stop.CommandStop.TheVariants as stop
use Rattle.command_base.proofs.ConcludeLemmas.{concluded_fault, concluded_no_warnings, concluded_not_done, concluded_sink_fault, printed_fault, printed_sink_fault, printed_warnings}
use Rattle.command_base.proofs.DumpLaws.{no_memory_left, not_file_fault, not_sink_fault, not_warnings, printed_done, read_fault, same_read, text_left, told_read, unread_left}
use Rattle.command_base.specs.Alike.{HoldsTable}
use Rattle.command_base.specs.Find.{EndsFind, Finds, HoldsNoTable, IsFound, bad, found_line, no_memory, printed, read, stopped, unread}
use Rattle.command_base.specs.Refusing.{IsRefusedOrFails, Tells}
use Rattle.command_base.specs.MergeRefused.{RefusesFind, table_unread, without_table}
use Rattle.command_base.proofs.Stops.{concluded_usage, done_no_usage, done_not_refused, is_read, left, not_memory, of_stop, one_text, read_no_usage, readable, unreadable, whole_text}

-- ---- from the fault of reading the bytes

pub no_table : (bytes : List ℕ) (f : TableFault) → IsTableFault bytes f → HoldsNoTable bytes (table_stop f)
no_table bytes (fault.Bad off) h = bad h
no_table bytes fault.NoMemory h = no_memory

-- what is told of the bytes that were read
pub found_as : (one other : List ℕ) (address : ℕ) (before after : Output) (x : Status) → one ≡ other → Finds one address before after x → Finds other address before after x
found_as one other address before after x same h = subst (λ (bytes : List ℕ). Finds bytes address before after x) same h

-- ---- where it is done

bytes_found : (table : List ℕ) (address : ℕ) (bytes : List ℕ) (content : Option Content) (before after : Output) (x : Status) → MayRead MAX_FILE_BYTES content table (Ok bytes) → Finds bytes address before after x → x ≡ Done → IsFound table address content before.written after.written
bytes_found table address bytes content before after x may (printed found finds t) e = record { bytes = bytes; may = may; found = found; finds = finds; printed = printed_done (found_line address found) before after x t e }
bytes_found table address bytes content before after x may (stopped s h t) e = absurd (concluded_not_done s before after x t e)

pub found_row : (table : List ℕ) (address : ℕ) (before after : Outside) (out out' : Output) (x : Status) → EndsFind table address before after out out' x → x ≡ Done → IsFound table address before.content out.written out'.written
found_row table address before after out out' x (unread s h t) e = absurd (concluded_not_done s out out' x t e)
found_row table address before after out out' x (read bytes may h) e = bytes_found table address bytes before.content out out' x may h e

-- ---- where TABLE is a table

pub no_table_excluded : (bytes : List ℕ) (rows : List AddressedRow) (s : CommandStop) → HoldsTable bytes rows → HoldsNoTable bytes s → s ≡ stop.NoMemory
no_table_excluded bytes rows s holds (bad {off = off} h) =
    let e : ◌≡◌ {A = Option ℕ} None (Some off) = sym (accepted rows holds.table) ∙ ap first_bad (sym holds.written) ∙ h in
    absurd (let never : ⊥ = cc in never)
no_table_excluded bytes rows stop.NoMemory holds no_memory = refl

bytes_left : (bytes : List ℕ) (rows : List AddressedRow) (address : ℕ) (before after : Output) (x : Status) → HoldsTable bytes rows → Finds bytes address before after x → IsAnswered x
bytes_left bytes rows address before after x holds (printed found finds t) = text_left _ before after x t
bytes_left bytes rows address before after x holds (stopped s h t) = no_memory_left s before after x (no_table_excluded bytes rows s holds h) t

pub find_left : (table : List ℕ) (address : ℕ) (bytes : List ℕ) (rows : List AddressedRow) (content : Content) (before after : Outside) (out out' : Output) (x : Status) → before.content ≡ Some content → reading content table MAX_FILE_BYTES ≡ Ok bytes → HoldsTable bytes rows → EndsFind table address before after out out' x → IsAnswered x
find_left table address bytes rows content before after out out' x c is holds (unread s h t) = unread_left MAX_FILE_BYTES s table bytes content before after out out' x c is h t
find_left table address bytes rows content before after out out' x c is holds (read other may h) =
    let same = same_read other bytes (told_read MAX_FILE_BYTES before.content content table _ c may ∙ is) in
    bytes_left bytes rows address out out' x holds (found_as other bytes address out out' x same h)

-- ---- where a step refuses

bytes_told : (table : List ℕ) (address : ℕ) (bytes : List ℕ) (held : Content) (out out' : Output) (x : Status) → reading held table MAX_FILE_BYTES ≡ Ok bytes → Finds bytes address out out' x → x ≡ Refused → Tells (RefusesFind table held) out.written out'.written
bytes_told table address bytes held out out' x is (printed found finds t) e = absurd (done_not_refused (whole_text Done _ out out' x t e).0)
bytes_told table address bytes held out out' x is (stopped s h t) e = of_stop (RefusesFind table held) s out out' x t e (λ at. without_table bytes is h (not_memory s at))

pub find_told : (table : List ℕ) (address : ℕ) (held : Content) (before after : Outside) (out out' : Output) (x : Status) → before.content ≡ Some held → EndsFind table address before after out out' x → x ≡ Refused → Tells (RefusesFind table held) out.written out'.written
find_told table address held before after out out' x c (unread s h t) e = of_stop (RefusesFind table held) s out out' x t e (λ at. table_unread (unreadable MAX_FILE_BYTES s table held before after c h at))
find_told table address held before after out out' x c (read bytes may h) e = bytes_told table address bytes held out out' x (is_read MAX_FILE_BYTES table bytes held before.content c may) h e

refused_not_found : (s : CommandStop) (table : List ℕ) (address : ℕ) (held : Content) (content : Option Content) (before after : Option (List ℕ)) → content ≡ Some held → RefusesFind table held s → IsFound table address content before after → ⊥
refused_not_found s table address held content before after c (table_unread h) d = readable MAX_FILE_BYTES s held table d.bytes h (is_read MAX_FILE_BYTES table d.bytes held content c d.may)
refused_not_found s table address held content before after c (without_table bytes is h other) d =
    other (no_table_excluded bytes d.finds.rows s (subst (λ (b : List ℕ). HoldsTable b d.finds.rows) (one_text MAX_FILE_BYTES held table d.bytes bytes (is_read MAX_FILE_BYTES table d.bytes held content c d.may) is) d.finds.holds) h)

-- ---- the other statuses

bytes_warnings : (bytes : List ℕ) (address : ℕ) (before after : Output) (x : Status) → Finds bytes address before after x → x ≢ Warnings
bytes_warnings bytes address before after x (printed found finds t) e = not_warnings (printed_warnings Done _ before after x t e)
bytes_warnings bytes address before after x (stopped s h t) e = concluded_no_warnings s before after x t e

pub find_no_warnings : (table : List ℕ) (address : ℕ) (before after : Outside) (out out' : Output) (x : Status) → EndsFind table address before after out out' x → x ≢ Warnings
find_no_warnings table address before after out out' x (unread s h t) e = concluded_no_warnings s out out' x t e
find_no_warnings table address before after out out' x (read bytes may h) e = bytes_warnings bytes address out out' x h e

no_table_usage : (s : CommandStop) (bytes : List ℕ) → HoldsNoTable bytes s → status_of s ≢ Usage
no_table_usage s bytes (bad h) e = cc
no_table_usage s bytes no_memory e = cc

bytes_usage : (bytes : List ℕ) (address : ℕ) (before after : Output) (x : Status) → Finds bytes address before after x → x ≢ Usage
bytes_usage bytes address before after x (printed found finds t) e = done_no_usage _ before after x t e
bytes_usage bytes address before after x (stopped s h t) e = no_table_usage s bytes h (concluded_usage s before after x t e)

pub find_no_usage : (table : List ℕ) (address : ℕ) (before after : Outside) (out out' : Output) (x : Status) → EndsFind table address before after out out' x → x ≢ Usage
find_no_usage table address before after out out' x (unread s h t) e = read_no_usage MAX_FILE_BYTES s table before after h (concluded_usage s out out' x t e)
find_no_usage table address before after out out' x (read bytes may h) e = bytes_usage bytes address out out' x h e

pub find_refused : (table : List ℕ) (address : ℕ) (held : Content) (before after : Outside) (out out' : Output) (x : Status) (s : CommandStop) → EndsFind table address before after out out' x → before.content ≡ Some held → RefusesFind table held s → IsRefusedOrFails x
find_refused table address held before after out out' x s ends c why =
    left x
    (λ e. refused_not_found s table address held before.content out.written out'.written c why (found_row table address before after out out' x ends e))
    (find_no_warnings table address before after out out' x ends)
    (find_no_usage table address before after out out' x ends)

-- ---- faults

no_table_fault : (s : CommandStop) (bytes : List ℕ) → HoldsNoTable bytes s → status_of s ≢ FileFault
no_table_fault s bytes (bad h) e = cc
no_table_fault s bytes no_memory e = cc

bytes_fault : (bytes : List ℕ) (address : ℕ) (before after : Output) (x : Status) → Finds bytes address before after x → x ≢ FileFault
bytes_fault bytes address before after x (printed found finds t) e = not_file_fault (printed_fault Done _ before after x t e)
bytes_fault bytes address before after x (stopped s h t) e = no_table_fault s bytes h (concluded_fault s before after x t e)

-- a fault of a file is answered only where its count rose
pub find_fault : (table : List ℕ) (address : ℕ) (before after : Outside) (out out' : Output) (x : Status) → EndsFind table address before after out out' x → x ≡ FileFault → Rose before.faults after.faults
find_fault table address before after out out' x (unread s h t) e = read_fault MAX_FILE_BYTES s table before after h (concluded_fault s out out' x t e)
find_fault table address before after out out' x (read bytes may h) e = absurd (bytes_fault bytes address out out' x h e)

bytes_sink_fault : (bytes : List ℕ) (address : ℕ) (before after : Output) (x : Status) → Finds bytes address before after x → x ≡ SinkFault → Rose before.faults after.faults
bytes_sink_fault bytes address before after x (printed found finds t) e = printed_sink_fault Done _ before after x t not_sink_fault e
bytes_sink_fault bytes address before after x (stopped s h t) e = concluded_sink_fault s before after x t e

-- and a fault of the output
pub find_sink_fault : (table : List ℕ) (address : ℕ) (before after : Outside) (out out' : Output) (x : Status) → EndsFind table address before after out out' x → x ≡ SinkFault → Rose out.faults out'.faults
find_sink_fault table address before after out out' x (unread s h t) e = concluded_sink_fault s out out' x t e
find_sink_fault table address before after out out' x (read bytes may h) e = bytes_sink_fault bytes address out out' x h e
