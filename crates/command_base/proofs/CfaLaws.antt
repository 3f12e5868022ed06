-- What follows from how `cfa` ends.
use Rattle.std.proofs.Common.{◌≡◌, ℕ, List, refl, ◌∙◌, subst}
use Rattle.std.specs.Prelude.{◌≢◌, Option, Some, Ok}
use Rattle.ot_files.specs.Causes.{Rose}
use Rattle.ot_files.specs.Content.{Content, reading}
use Rattle.elf_objects.specs.declared.TheConstants.{MAX_FILE_BYTES}
use Rattle.elf_objects.specs.declared.fault.ElfFault.{ElfFault}
use Rattle.elf_objects.specs.Elf.{Elf}
use Rattle.elf_objects.specs.Object as object
use Rattle.elf_objects.specs.Object.{IsObject}
use Rattle.elf_objects.proofs.FirstFault.{FirstFault-not}
use Rattle.eh_frame.specs.Faults as frames
use Rattle.eh_frame.specs.Records.{HoldsRules}
use Rattle.eh_frame.specs.declared.fault.EhFault.{EhFault}
use Rattle.eh_frame.specs.declared.fault.EhFault.TheVariants as fault
use Rattle.eh_frame.specs.declared.rule.PlacedRule.{PlacedRule}
use Rattle.eh_frame.proofs.Decoded.{no_fault}
use Rattle.command_base.specs.Dump.{IsAnswered}
use Rattle.command_base.specs.Outside.{Outside, Output}
use Rattle.command_base.specs.Printing.{Prints}
use Rattle.command_base.specs.Reading.{MayRead, frames_stop, parse_stop}
use Rattle.command_base.specs.Stop.{status_of}
use Rattle.command_base.specs.declared.status.Status.{Status}
use Rattle.command_base.specs.declared.status.Status.TheVariants.{Done, Warnings, Refused, Usage, FileFault, SinkFault}
use Rattle.command_base.specs.declared.stop.CommandStop.{CommandStop}
use Rattle.command_base.specs.declared.stop.CommandStop.TheVariants as stop
use Rattle.command_base.proofs.ConcludeLemmas.{concluded_fault, concluded_no_warnings, concluded_not_done, concluded_sink_fault, printed_fault, printed_sink_fault, printed_warnings}
use Rattle.command_base.proofs.DumpLaws.{no_memory_left, not_file_fault, not_sink_fault, not_warnings, one_object, printed_done, read_fault, same_read, text_left, told_read, unread_left}
use Rattle.command_base.proofs.FaultStops.{fault_of, of_parse}
use Rattle.command_base.specs.Cfa.{EndsCfa, IsTold, SaysNoRules, SaysRules, TellsBytes, rules_text, malformed, no_rules, no_memory, printed, read, stopped, unread}
use Rattle.command_base.specs.Refusing.{IsRefusedOrFails, Tells}
use Rattle.command_base.specs.CfaRefused.{RefusesCfa, object_unread, without_rules}
use Rattle.command_base.proofs.Stops.{concluded_usage, done_no_usage, done_not_refused, is_read, left, not_memory, of_stop, one_text, read_no_usage, readable, unreadable, whole_text}

-- ---- from the faults of those who read FILE

pub no_object : (bytes : List ℕ) (e : ElfFault) → object.Refuses (object.FirstFault bytes) e → SaysNoRules bytes (parse_stop e)
no_object bytes e h = of_parse (SaysNoRules bytes) bytes e (λ first fault. malformed fault) no_memory h

pub no_rules_said : (bytes : List ℕ) (o : Elf) (e : EhFault) → IsObject bytes o → frames.Refuses o e → SaysNoRules bytes (frames_stop e)
no_rules_said bytes o fault.NoSection is h = no_rules o is (fault_of h (λ x. cc))
no_rules_said bytes o (fault.BadRecord off) is h = no_rules o is (fault_of h (λ x. cc))
no_rules_said bytes o (fault.BadReloc off) is h = no_rules o is (fault_of h (λ x. cc))
no_rules_said bytes o (fault.BadOp off) is h = no_rules o is (fault_of h (λ x. cc))
no_rules_said bytes o fault.NoMemory is h = no_memory

-- ---- where it is done

bytes_say : (file bytes : List ℕ) (content : Option Content) (before after : Output) (x : Status) → MayRead MAX_FILE_BYTES content file (Ok bytes) → TellsBytes bytes before after x → x ≡ Done → IsTold file content before.written after.written
bytes_say file bytes content before after x may (printed o rules held t) e = record { bytes = bytes; may = may; object = o; rules = rules; says = held; printed = printed_done (rules_text o rules) before after x t e }
bytes_say file bytes content before after x may (stopped s h t) e = absurd (concluded_not_done s before after x t e)

pub file_told : (file : List ℕ) (before after : Outside) (out out' : Output) (x : Status) → EndsCfa file before after out out' x → x ≡ Done → IsTold file before.content out.written out'.written
file_told file before after out out' x (unread s h t) e = absurd (concluded_not_done s out out' x t e)
file_told file before after out out' x (read bytes may h) e = bytes_say file bytes before.content out out' x may h e

-- ---- where FILE says rules

pub no_rules_excluded : (bytes : List ℕ) (o : Elf) (rules : List PlacedRule) (s : CommandStop) → SaysRules bytes o rules → SaysNoRules bytes s → s ≡ stop.NoMemory
no_rules_excluded bytes o rules s held (malformed fault) = absurd (FirstFault-not bytes _ fault held.object.well_formed)
no_rules_excluded bytes o rules s held (no_rules p is fault) = absurd (no_fault p rules _ fault (subst (λ (x : Elf). HoldsRules x rules) (one_object bytes o p held.object is) held.held))
no_rules_excluded bytes o rules s held no_memory = refl

bytes_left : (bytes : List ℕ) (o : Elf) (rules : List PlacedRule) (before after : Output) (x : Status) → SaysRules bytes o rules → TellsBytes bytes before after x → IsAnswered x
bytes_left bytes o rules before after x held (printed p others h t) = text_left _ before after x t
bytes_left bytes o rules before after x held (stopped s h t) = no_memory_left s before after x (no_rules_excluded bytes o rules s held h) t

pub cfa_left : (file bytes : List ℕ) (o : Elf) (rules : List PlacedRule) (content : Content) (before after : Outside) (out out' : Output) (x : Status) → before.content ≡ Some content → reading content file MAX_FILE_BYTES ≡ Ok bytes → SaysRules bytes o rules → EndsCfa file before after out out' x → IsAnswered x
cfa_left file bytes o rules content before after out out' x c is held (unread s h t) = unread_left MAX_FILE_BYTES s file bytes content before after out out' x c is h t
cfa_left file bytes o rules content before after out out' x c is held (read other may h) =
    let same = same_read other bytes (told_read MAX_FILE_BYTES before.content content file _ c may ∙ is) in
    bytes_left bytes o rules out out' x held (subst (λ (b : List ℕ). TellsBytes b out out' x) same h)

-- ---- where a step refuses

bytes_told : (file bytes : List ℕ) (held : Content) (out out' : Output) (x : Status) → reading held file MAX_FILE_BYTES ≡ Ok bytes → TellsBytes bytes out out' x → x ≡ Refused → Tells (RefusesCfa file held) out.written out'.written
bytes_told file bytes held out out' x is (printed o rules holds t) e = absurd (done_not_refused (whole_text Done _ out out' x t e).0)
bytes_told file bytes held out out' x is (stopped s h t) e = of_stop (RefusesCfa file held) s out out' x t e (λ at. without_rules bytes is h (not_memory s at))

pub cfa_told : (file : List ℕ) (held : Content) (before after : Outside) (out out' : Output) (x : Status) → before.content ≡ Some held → EndsCfa file before after out out' x → x ≡ Refused → Tells (RefusesCfa file held) out.written out'.written
cfa_told file held before after out out' x c (unread s h t) e = of_stop (RefusesCfa file held) s out out' x t e (λ at. object_unread (unreadable MAX_FILE_BYTES s file held before after c h at))
cfa_told file held before after out out' x c (read bytes may h) e = bytes_told file bytes held out out' x (is_read MAX_FILE_BYTES file bytes held before.content c may) h e

refused_not_told : (s : CommandStop) (file : List ℕ) (held : Content) (content : Option Content) (before after : Option (List ℕ)) → content ≡ Some held → RefusesCfa file held s → IsTold file content before after → ⊥
refused_not_told s file held content before after c (object_unread h) d = readable MAX_FILE_BYTES s held file d.bytes h (is_read MAX_FILE_BYTES file d.bytes held content c d.may)
refused_not_told s file held content before after c (without_rules bytes is h other) d =
    other (no_rules_excluded bytes d.object d.rules s (subst (λ (b : List ℕ). SaysRules b d.object d.rules) (one_text MAX_FILE_BYTES held file d.bytes bytes (is_read MAX_FILE_BYTES file d.bytes held content c d.may) is) d.says) h)

-- ---- the other statuses

bytes_warnings : (bytes : List ℕ) (before after : Output) (x : Status) → TellsBytes bytes before after x → x ≢ Warnings
bytes_warnings bytes before after x (printed o rules held t) e = not_warnings (printed_warnings Done _ before after x t e)
bytes_warnings bytes before after x (stopped s h t) e = concluded_no_warnings s before after x t e

pub cfa_no_warnings : (file : List ℕ) (before after : Outside) (out out' : Output) (x : Status) → EndsCfa file before after out out' x → x ≢ Warnings
cfa_no_warnings file before after out out' x (unread s h t) e = concluded_no_warnings s out out' x t e
cfa_no_warnings file before after out out' x (read bytes may h) e = bytes_warnings bytes out out' x h e

no_rules_usage : (s : CommandStop) (bytes : List ℕ) → SaysNoRules bytes s → status_of s ≢ Usage
no_rules_usage s bytes (malformed fault) e = cc
no_rules_usage s bytes (no_rules o is fault) e = cc
no_rules_usage s bytes no_memory e = cc

bytes_usage : (bytes : List ℕ) (before after : Output) (x : Status) → TellsBytes bytes before after x → x ≢ Usage
bytes_usage bytes before after x (printed o rules held t) e = done_no_usage _ before after x t e
bytes_usage bytes before after x (stopped s h t) e = no_rules_usage s bytes h (concluded_usage s before after x t e)

pub cfa_no_usage : (file : List ℕ) (before after : Outside) (out out' : Output) (x : Status) → EndsCfa file before after out out' x → x ≢ Usage
cfa_no_usage file before after out out' x (unread s h t) e = read_no_usage MAX_FILE_BYTES s file before after h (concluded_usage s out out' x t e)
cfa_no_usage file before after out out' x (read bytes may h) e = bytes_usage bytes out out' x h e

pub cfa_refused : (file : List ℕ) (held : Content) (before after : Outside) (out out' : Output) (x : Status) (s : CommandStop) → EndsCfa file before after out out' x → before.content ≡ Some held → RefusesCfa file held s → IsRefusedOrFails x
cfa_refused file held before after out out' x s ends c why =
    left x
    (λ e. refused_not_told s file held before.content out.written out'.written c why (file_told file before after out out' x ends e))
    (cfa_no_warnings file before after out out' x ends)
    (cfa_no_usage file before after out out' x ends)

-- ---- faults

no_rules_fault : (s : CommandStop) (bytes : List ℕ) → SaysNoRules bytes s → status_of s ≢ FileFault
no_rules_fault s bytes (malformed fault) e = cc
no_rules_fault s bytes (no_rules o is fault) e = cc
no_rules_fault s bytes no_memory e = cc

bytes_fault : (bytes : List ℕ) (before after : Output) (x : Status) → TellsBytes bytes before after x → x ≢ FileFault
bytes_fault bytes before after x (printed o rules held t) e = not_file_fault (printed_fault Done _ before after x t e)
bytes_fault bytes before after x (stopped s h t) e = no_rules_fault s bytes h (concluded_fault s before after x t e)

-- a fault of a file is answered only where its count rose
pub cfa_fault : (file : List ℕ) (before after : Outside) (out out' : Output) (x : Status) → EndsCfa file before after out out' x → x ≡ FileFault → Rose before.faults after.faults
cfa_fault file before after out out' x (unread s h t) e = read_fault MAX_FILE_BYTES s file before after h (concluded_fault s out out' x t e)
cfa_fault file before after out out' x (read bytes may h) e = absurd (bytes_fault bytes out out' x h e)

bytes_sink_fault : (bytes : List ℕ) (before after : Output) (x : Status) → TellsBytes bytes before after x → x ≡ SinkFault → Rose before.faults after.faults
bytes_sink_fault bytes before after x (printed o rules held t) e = printed_sink_fault Done _ before after x t not_sink_fault e
bytes_sink_fault bytes before after x (stopped s h t) e = concluded_sink_fault s before after x t e

-- and a fault of the output
pub cfa_sink_fault : (file : List ℕ) (before after : Outside) (out out' : Output) (x : Status) → EndsCfa file before after out out' x → x ≡ SinkFault → Rose out.faults out'.faults
cfa_sink_fault file before after out out' x (unread s h t) e = concluded_sink_fault s out out' x t e
cfa_sink_fault file before after out out' x (read bytes may h) e = bytes_sink_fault bytes out out' x h e

-- ---- from what its parts ensure

pub tells_as : (bytes told : List ℕ) (out out' : Output) (x : Status) → told ≡ bytes → TellsBytes told out out' x → TellsBytes bytes out out' x
tells_as bytes told out out' x same h = subst (λ (b : List ℕ). TellsBytes b out out' x) same h

pub printed_as : (o : Elf) (told rules : List PlacedRule) (out out' : Output) (x : Status) → told ≡ rules → Prints Done (rules_text o told) out out' x → Prints Done (rules_text o rules) out out' x
printed_as o told rules out out' x same h = subst (λ (rs : List PlacedRule). Prints Done (rules_text o rs) out out' x) same h
