-- What follows from how `dump` ends.
use Rattle.std.proofs.Common.{◌≡◌, ℕ, List, refl, sym, ◌∙◌, subst, inl, inr}
use Rattle.std.specs.Prelude.{◌≢◌, ◌⊎◌, Option, Some, Result, Ok, Err}
use Rattle.ot_base.specs.declared.row.PlacedRow.{PlacedRow}
use Rattle.ot_files.specs.Causes.{Rose}
use Rattle.ot_files.specs.Content.{Content, reading}
use Rattle.ot_files.specs.Output.{appending}
use Rattle.ot_files.specs.declared.access.FileError.{FileError}
use Rattle.ot_files.specs.declared.access.FileError.TheVariants as file_error
use Rattle.elf_objects.specs.declared.TheConstants.{MAX_FILE_BYTES}
use Rattle.elf_objects.specs.Elf.{Elf}
use Rattle.elf_objects.specs.Object.{IsObject}
use Rattle.elf_objects.proofs.FirstFault.{FirstFault-not}
use Rattle.orc_bytes.specs.Sections.{HoldsOrc}
use Rattle.orc_bytes.proofs.Excluded.{fault_excludes}
use Rattle.command_base.specs.declared.status.Status.{Status}
use Rattle.command_base.specs.declared.status.Status.TheVariants.{Done, Warnings, FileFault, SinkFault, NoMemory}
use Rattle.command_base.specs.declared.stop.CommandStop.{CommandStop}
use Rattle.command_base.specs.declared.stop.CommandStop.TheVariants as stop
use Rattle.command_base.specs.Outside.{Outside, Output}
use Rattle.command_base.specs.Printing.{Concludes, Prints, fails, fault_stays, runs_out, whole}
use Rattle.command_base.specs.Reading.{MayRead, StopsAtRead}
use Rattle.command_base.specs.Stop.{status_of}
use Rattle.command_base.proofs.ConcludeLemmas.{concluded_after_fault, concluded_fault, concluded_no_memory, concluded_no_warnings, concluded_not_done, concluded_sink_fault, printed_fault, printed_sink_fault, printed_warnings}
use Rattle.command_base.specs.Dump.{Dumps, EndsDump, HoldsNoRows, HoldsRows, IsAnswered, IsDumped, malformed, no_memory, no_rows, printed, read, rows_text, stopped, unread}

pub printed_done : (text : List ℕ) (before after : Output) (x : Status) → Prints Done text before after x → x ≡ Done → after.written ≡ appending before.written text
printed_done text before after x (whole at all) e = all
printed_done text before after FileFault (fault_stays prefix rose at) e = cc
printed_done text before after SinkFault (fails prefix rose other) e = cc
printed_done text before after NoMemory (runs_out prefix) e = cc

bytes_dumped : (file bytes : List ℕ) (content : Option Content) (before after : Output) (x : Status) → MayRead MAX_FILE_BYTES content file (Ok bytes) → Dumps bytes before after x → x ≡ Done → IsDumped file content before.written after.written
bytes_dumped file bytes content before after x may (printed o rows held t) e = record { bytes = bytes; may = may; object = o; rows = rows; held = held; printed = printed_done (rows_text o rows) before after x t e }
bytes_dumped file bytes content before after x may (stopped s h t) e = absurd (concluded_not_done s before after x t e)

pub dumped : (file : List ℕ) (before after : Outside) (out out' : Output) (x : Status) → EndsDump file before after out out' x → x ≡ Done → IsDumped file before.content out.written out'.written
dumped file before after out out' x (unread s h t) e = absurd (concluded_not_done s out out' x t e)
dumped file before after out out' x (read bytes may h) e = bytes_dumped file bytes before.content out out' x may h e

-- ---- what is answered where FILE holds rows

pub one_object : (bytes : List ℕ) (o p : Elf) → IsObject bytes o → IsObject bytes p → o ≡ p
one_object bytes o p h k = h.says ∙ sym k.says

pub no_rows_excluded : (bytes : List ℕ) (o : Elf) (rows : List PlacedRow) (s : CommandStop) → HoldsRows bytes o rows → HoldsNoRows bytes s → s ≡ stop.NoMemory
no_rows_excluded bytes o rows s held (malformed fault) = absurd (FirstFault-not bytes _ fault held.object.well_formed)
no_rows_excluded bytes o rows s held (no_rows p is fault) = absurd (fault_excludes p rows _ fault (subst (λ (x : Elf). HoldsOrc x rows) (one_object bytes o p held.object is) held.held))
no_rows_excluded bytes o rows s held no_memory = refl

pub no_memory_left : (s : CommandStop) (before after : Output) (x : Status) → s ≡ stop.NoMemory → Concludes s before after x → IsAnswered x
no_memory_left s before after x is t = inr (inr (inr (concluded_no_memory before after x (subst (λ (y : CommandStop). Concludes y before after x) is t))))

pub text_left : (text : List ℕ) (before after : Output) (x : Status) → Prints Done text before after x → IsAnswered x
text_left text before after x (whole at all) = inl at
text_left text before after FileFault (fault_stays prefix rose at) = inr (inl refl)
text_left text before after SinkFault (fails prefix rose other) = inr (inr (inl refl))
text_left text before after NoMemory (runs_out prefix) = inr (inr (inr refl))

bytes_left : (bytes : List ℕ) (o : Elf) (rows : List PlacedRow) (before after : Output) (x : Status) → HoldsRows bytes o rows → Dumps bytes before after x → IsAnswered x
bytes_left bytes o rows before after x held (printed p others h t) = text_left _ before after x t
bytes_left bytes o rows before after x held (stopped s h t) = no_memory_left s before after x (no_rows_excluded bytes o rows s held h) t

pub told_read : (limit : ℕ) (content : Option Content) (held : Content) (name : List ℕ) (r : Result (List ℕ) FileError) → content ≡ Some held → MayRead limit content name r → r ≡ reading held name limit
told_read limit content held name r is may = subst (λ (c : Option Content). MayRead limit c name r) is may

pub fault_left : (x : Status) → (x ≡ FileFault) ⊎ (x ≡ NoMemory) → IsAnswered x
fault_left x (inl e) = inr (inl e)
fault_left x (inr e) = inr (inr (inr e))

-- where a file is there and within the limit, only a fault or want of memory keeps it from being read
pub unread_told : (limit : ℕ) (s : CommandStop) (file bytes : List ℕ) (content : Content) (before after : Outside) (out out' : Output) (x : Status) → before.content ≡ Some content → reading content file limit ≡ Ok bytes → StopsAtRead limit file before after s → Concludes s out out' x → (x ≡ FileFault) ⊎ (x ≡ NoMemory)
unread_told limit (stop.Usage usage) file bytes content before after out out' x c is h t = absurd h
unread_told limit (stop.PartMissing part told_file) file bytes content before after out out' x c is h t = absurd h
unread_told limit (stop.PartTooLong part told_file told_limit) file bytes content before after out out' x c is h t = absurd h
unread_told limit (stop.PartRefused part refusal) file bytes content before after out out' x c is h t = absurd h
unread_told limit (stop.Missing told) file bytes content before after out out' x c is h t = let u : ◌≡◌ {A = Result (List ℕ) FileError} (Err file_error.Missing) (Ok bytes) = told_read limit before.content content file _ c h.1 ∙ is in cc
unread_told limit (stop.TooLong told at) file bytes content before after out out' x c is h t = let u : ◌≡◌ {A = Result (List ℕ) FileError} (Err (file_error.TooLong limit)) (Ok bytes) = told_read limit before.content content file _ c h.1.1 ∙ is in cc
unread_told limit (stop.Refused refusal) file bytes content before after out out' x c is h t = absurd h
unread_told limit (stop.FileFault told) file bytes content before after out out' x c is h t = concluded_after_fault (stop.FileFault told) out out' x refl t
unread_told limit stop.NoMemory file bytes content before after out out' x c is h t = inr (concluded_no_memory out out' x t)

pub unread_left : (limit : ℕ) (s : CommandStop) (file bytes : List ℕ) (content : Content) (before after : Outside) (out out' : Output) (x : Status) → before.content ≡ Some content → reading content file limit ≡ Ok bytes → StopsAtRead limit file before after s → Concludes s out out' x → IsAnswered x
unread_left limit s file bytes content before after out out' x c is h t = fault_left x (unread_told limit s file bytes content before after out out' x c is h t)

pub same_read : (a b : List ℕ) → ◌≡◌ {A = Result (List ℕ) FileError} (Ok a) (Ok b) → a ≡ b
same_read a b e = cc

pub dump_left : (file bytes : List ℕ) (o : Elf) (rows : List PlacedRow) (content : Content) (before after : Outside) (out out' : Output) (x : Status) → before.content ≡ Some content → reading content file MAX_FILE_BYTES ≡ Ok bytes → HoldsRows bytes o rows → EndsDump file before after out out' x → IsAnswered x
dump_left file bytes o rows content before after out out' x c is held (unread s h t) = unread_left MAX_FILE_BYTES s file bytes content before after out out' x c is h t
dump_left file bytes o rows content before after out out' x c is held (read other may h) =
    let same = same_read other bytes (told_read MAX_FILE_BYTES before.content content file _ c may ∙ is) in
    bytes_left bytes o rows out out' x held (subst (λ (b : List ℕ). Dumps b out out' x) same h)

-- ---- faults

pub not_file_fault : Done ≢ FileFault
not_file_fault e = cc

pub not_sink_fault : Done ≢ SinkFault
not_sink_fault e = cc

pub not_warnings : Done ≢ Warnings
not_warnings e = cc

pub no_rows_fault : (s : CommandStop) (bytes : List ℕ) → HoldsNoRows bytes s → status_of s ≢ FileFault
no_rows_fault s bytes (malformed fault) e = cc
no_rows_fault s bytes (no_rows o is fault) e = cc
no_rows_fault s bytes no_memory e = cc

bytes_fault : (bytes : List ℕ) (before after : Output) (x : Status) → Dumps bytes before after x → x ≢ FileFault
bytes_fault bytes before after x (printed o rows held t) e = not_file_fault (printed_fault Done _ before after x t e)
bytes_fault bytes before after x (stopped s h t) e = no_rows_fault s bytes h (concluded_fault s before after x t e)

pub read_fault : (limit : ℕ) (s : CommandStop) (name : List ℕ) (before after : Outside) → StopsAtRead limit name before after s → status_of s ≡ FileFault → Rose before.faults after.faults
read_fault limit (stop.Usage usage) name before after h e = absurd h
read_fault limit (stop.PartMissing part file) name before after h e = absurd h
read_fault limit (stop.PartTooLong part file told_limit) name before after h e = absurd h
read_fault limit (stop.PartRefused part refusal) name before after h e = absurd h
read_fault limit (stop.Missing file) name before after h e = cc
read_fault limit (stop.TooLong file at) name before after h e = cc
read_fault limit (stop.Refused refusal) name before after h e = absurd h
read_fault limit (stop.FileFault file) name before after h e = h.1
read_fault limit stop.NoMemory name before after h e = cc

pub dump_fault : (file : List ℕ) (before after : Outside) (out out' : Output) (x : Status) → EndsDump file before after out out' x → x ≡ FileFault → Rose before.faults after.faults
dump_fault file before after out out' x (unread s h t) e = read_fault MAX_FILE_BYTES s file before after h (concluded_fault s out out' x t e)
dump_fault file before after out out' x (read bytes may h) e = absurd (bytes_fault bytes out out' x h e)

bytes_sink_fault : (bytes : List ℕ) (before after : Output) (x : Status) → Dumps bytes before after x → x ≡ SinkFault → Rose before.faults after.faults
bytes_sink_fault bytes before after x (printed o rows held t) e = printed_sink_fault Done _ before after x t not_sink_fault e
bytes_sink_fault bytes before after x (stopped s h t) e = concluded_sink_fault s before after x t e

pub dump_sink_fault : (file : List ℕ) (before after : Outside) (out out' : Output) (x : Status) → EndsDump file before after out out' x → x ≡ SinkFault → Rose out.faults out'.faults
dump_sink_fault file before after out out' x (unread s h t) e = concluded_sink_fault s out out' x t e
dump_sink_fault file before after out out' x (read bytes may h) e = bytes_sink_fault bytes out out' x h e

bytes_warnings : (bytes : List ℕ) (before after : Output) (x : Status) → Dumps bytes before after x → x ≢ Warnings
bytes_warnings bytes before after x (printed o rows held t) e = not_warnings (printed_warnings Done _ before after x t e)
bytes_warnings bytes before after x (stopped s h t) e = concluded_no_warnings s before after x t e

pub dump_no_warnings : (file : List ℕ) (before after : Outside) (out out' : Output) (x : Status) → EndsDump file before after out out' x → x ≢ Warnings
dump_no_warnings file before after out out' x (unread s h t) e = concluded_no_warnings s out out' x t e
dump_no_warnings file before after out out' x (read bytes may h) e = bytes_warnings bytes out out' x h e
