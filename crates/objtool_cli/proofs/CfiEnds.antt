-- A fault that `cfi` ends with was met, and it ends with no fault of the words.
use Rattle.std.proofs.Common.{◌≡◌, ℕ, List}
use Rattle.std.specs.Prelude.{◌≢◌, Option}
use Rattle.ot_base.specs.NameLists.{NameLists}
use Rattle.ot_files.specs.Causes.{Rose}
use Rattle.elf_objects.specs.Elf.{Elf}
use Rattle.x86_map.specs.declared.map.Map.{Map}
use Rattle.command_base.specs.declared.status.Status.{Status}
use Rattle.command_base.specs.declared.status.Status.TheVariants.{Done, FileFault, SinkFault}
use Rattle.command_base.specs.declared.status.Status.TheVariants as status
use Rattle.command_base.specs.declared.stop.CommandStop.{CommandStop}
use Rattle.command_base.specs.Outside.{Outside, Output}
use Rattle.command_base.specs.Stop.{status_of}
use Rattle.command_base.proofs.ConcludeLemmas.{concluded_fault, concluded_sink_fault, printed_fault, printed_sink_fault}
use Rattle.objtool_cli.specs.Cfi.{EndsCfi, GetNoFrames, IsUnchecked, StopsCfi, done, has_frames, malformed, no_memory, out_of_memory, refused, stopped, too_many_sections, too_many_symbols, unchecked, unflowed, unlinked, unread, unwritten, warned, without_names}
use Rattle.command_base.proofs.DumpLaws.{read_fault}
use Rattle.command_base.proofs.Stops.{names_fault, write_fault}
use Rattle.objtool_cli.proofs.StatusLemmas.{warnings_no_sink_fault}
use Rattle.elf_objects.specs.declared.TheConstants.{MAX_FILE_BYTES}

unchecked_no_fault : (s : CommandStop) (map : Map) (lists : NameLists) (o : Elf) → IsUnchecked map lists o s → status_of s ≢ FileFault
unchecked_no_fault s map lists o (unlinked why worded) e = cc
unchecked_no_fault s map lists o (unflowed why) e = cc
unchecked_no_fault s map lists o (has_frames order at) e = cc
unchecked_no_fault s map lists o (too_many_sections order new many count) e = cc
unchecked_no_fault s map lists o out_of_memory e = cc

gets_no_fault : (s : CommandStop) (map : Map) (bytes : List ℕ) (lists : NameLists) → GetNoFrames map bytes lists s → status_of s ≢ FileFault
gets_no_fault s map bytes lists (malformed fault) e = cc
gets_no_fault s map bytes lists (unchecked o is why) e = unchecked_no_fault s map lists o why e
gets_no_fault s map bytes lists (too_many_symbols o rows is can unbroken has many count) e = cc
gets_no_fault s map bytes lists no_memory e = cc

stop_fault : (s : CommandStop) (map : Map) (input output : List ℕ) (names : Option (List ℕ)) (before after : Outside) → StopsCfi map input output names before after s → status_of s ≡ FileFault → Rose before.faults after.faults
stop_fault s map input output names before after (unread h kept) e = read_fault MAX_FILE_BYTES s input before after h e
stop_fault s map input output names before after (without_names read may h kept) e = names_fault s names before after h e
stop_fault s map input output names before after (refused read lists was h kept) e = absurd (gets_no_fault s map read lists h e)
stop_fault s map input output names before after (unwritten o rows file may h others) e = write_fault s output before after h e

pub cfi_fault : (map : Map) (input output : List ℕ) (names : Option (List ℕ)) (before after : Outside) (out out' : Output) (x : Status) → EndsCfi map input output names before after out out' x → x ≡ FileFault → Rose before.faults after.faults
cfi_fault map input output names before after out out' Done (done o rows file may e same) is = cc
cfi_fault map input output names before after out out' x (warned o warnings may kept t) is = let same = printed_fault status.Warnings _ out out' x t is in cc
cfi_fault map input output names before after out out' x (stopped s h t) is = stop_fault s map input output names before after h (concluded_fault s out out' x t is)

pub cfi_sink_fault : (map : Map) (input output : List ℕ) (names : Option (List ℕ)) (before after : Outside) (out out' : Output) (x : Status) → EndsCfi map input output names before after out out' x → x ≡ SinkFault → Rose out.faults out'.faults
cfi_sink_fault map input output names before after out out' Done (done o rows file may e same) is = cc
cfi_sink_fault map input output names before after out out' x (warned o warnings may kept t) is = printed_sink_fault status.Warnings _ out out' x t warnings_no_sink_fault is
cfi_sink_fault map input output names before after out out' x (stopped s h t) is = concluded_sink_fault s out out' x t is
