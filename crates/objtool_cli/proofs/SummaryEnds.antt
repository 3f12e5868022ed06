-- What the status that bytes are summed up with says of why, and of what was printed.
use Rattle.std.proofs.Common.{◌≡◌, ℕ, List, sym, inl, inr, ◌∙◌}
use Rattle.std.specs.Prelude.{◌≢◌}
use Rattle.ot_base.specs.NameLists.{built_in}
use Rattle.ot_files.specs.Causes.{Rose}
use Rattle.ot_files.specs.Output.{appending}
use Rattle.command_base.specs.declared.refusal.Refusal.{Refusal}
use Rattle.command_base.specs.declared.status.Status.{Status}
use Rattle.command_base.specs.declared.status.Status.TheVariants.{Done, Warnings, Refused, FileFault, SinkFault, NoMemory}
use Rattle.command_base.specs.declared.stop.CommandStop.{CommandStop}
use Rattle.command_base.specs.declared.stop.CommandStop.TheVariants as stop
use Rattle.command_base.specs.Outside.{Output}
use Rattle.command_base.specs.Printing.{Concludes, IsOutputFault, Prints, fails, fault_stays, runs_out, silent, tells, whole}
use Rattle.command_base.specs.Stop.{line_of, status_of}
use Rattle.command_base.proofs.ConcludeLemmas.{concluded_fault, concluded_no_memory, concluded_no_warnings, concluded_not_done, concluded_sink_fault, printed_done, printed_fault, printed_sink_fault, printed_warnings}
use Rattle.objtool_cli.specs.Checked.{IsUncheckable, IsUncheckableStop}
use Rattle.objtool_cli.specs.Summary.{PrintsRefusal, PrintsSummary, PrintsWarningsOf, SumsUp, no_options, passed, stopped, summary_line, warned}
use Rattle.command_base.specs.Warnings.{warnings_text}
use Rattle.command_base.proofs.Stops.{done_not_refused}

-- no fault, nor want of memory
record IsPlain (x : Status) : Type 0 where
  file : x ≢ FileFault
  sink : x ≢ SinkFault
  memory : x ≢ NoMemory

done_plain : IsPlain Done
done_plain = record { file = λ e. cc; sink = λ e. cc; memory = λ e. cc }

warnings_plain : IsPlain Warnings
warnings_plain = record { file = λ e. cc; sink = λ e. cc; memory = λ e. cc }

refused_plain : IsPlain Refused
refused_plain = record { file = λ e. cc; sink = λ e. cc; memory = λ e. cc }

-- where such a status is answered, it is the one that was wanted, and the whole text was printed
printed_as : (end other : Status) (text : List ℕ) (out out' : Output) (x : Status) → Prints end text out out' x → x ≡ other → IsPlain other → end ≡ other
printed_as end other text out out' x (whole at all) e plain = sym at ∙ e
printed_as end other text out out' FileFault (fault_stays prefix rose at) e plain = absurd (plain.file (sym e))
printed_as end other text out out' SinkFault (fails prefix rose at) e plain = absurd (plain.sink (sym e))
printed_as end other text out out' NoMemory (runs_out prefix) e plain = absurd (plain.memory (sym e))

printed_whole : (end : Status) (text : List ℕ) (out out' : Output) (x : Status) → Prints end text out out' x → x ≡ end → IsPlain end → out'.written ≡ appending out.written text
printed_whole end text out out' x (whole at all) e plain = all
printed_whole end text out out' FileFault (fault_stays prefix rose at) e plain = absurd (plain.file (sym e))
printed_whole end text out out' SinkFault (fails prefix rose at) e plain = absurd (plain.sink (sym e))
printed_whole end text out out' NoMemory (runs_out prefix) e plain = absurd (plain.memory (sym e))

warnings_not_refused : Warnings ≢ Refused
warnings_not_refused e = cc

warnings_not_done : Warnings ≢ Done
warnings_not_done e = cc

done_no_warnings : Done ≢ Warnings
done_no_warnings e = cc

-- ---- faults

uncheckable_no_fault : (bytes : List ℕ) (s : CommandStop) → IsUncheckableStop no_options.map bytes built_in s → status_of s ≢ FileFault
uncheckable_no_fault bytes (stop.Refused refusal) h e = cc
uncheckable_no_fault bytes stop.NoMemory h e = cc
uncheckable_no_fault bytes (stop.Usage usage) h e = absurd h
uncheckable_no_fault bytes (stop.PartMissing part file) h e = absurd h
uncheckable_no_fault bytes (stop.PartTooLong part file limit) h e = absurd h
uncheckable_no_fault bytes (stop.PartRefused part refusal) h e = absurd h
uncheckable_no_fault bytes (stop.Missing file) h e = absurd h
uncheckable_no_fault bytes (stop.TooLong file limit) h e = absurd h
uncheckable_no_fault bytes (stop.FileFault file) h e = absurd h

pub sums_no_file_fault : (title bytes : List ℕ) (out out' : Output) (x : Status) → SumsUp title bytes out out' x → x ≢ FileFault
sums_no_file_fault title bytes out out' x (passed counts rows p t) e = done_plain.file (printed_fault Done _ out out' x t e)
sums_no_file_fault title bytes out out' x (warned o warnings w t) e = warnings_plain.file (printed_fault Warnings _ out out' x t e)
sums_no_file_fault title bytes out out' x (stopped s h t) e = uncheckable_no_fault bytes s h (concluded_fault s out out' x t e)

pub sums_sink_fault : (title bytes : List ℕ) (out out' : Output) (x : Status) → SumsUp title bytes out out' x → x ≡ SinkFault → Rose out.faults out'.faults
sums_sink_fault title bytes out out' x (passed counts rows p t) e = printed_sink_fault Done _ out out' x t done_plain.sink e
sums_sink_fault title bytes out out' x (warned o warnings w t) e = printed_sink_fault Warnings _ out out' x t warnings_plain.sink e
sums_sink_fault title bytes out out' x (stopped s h t) e = concluded_sink_fault s out out' x t e

-- of the faults that may be answered where the output failed it is the output's
pub only_sink_fault : (title bytes : List ℕ) (out out' : Output) (x : Status) → SumsUp title bytes out out' x → IsOutputFault x → x ≡ SinkFault
only_sink_fault title bytes out out' x h (inl e) = e
only_sink_fault title bytes out out' x h (inr e) = absurd (sums_no_file_fault title bytes out out' x h e)

-- ---- what was printed

pub sums_done : (title bytes : List ℕ) (out out' : Output) (x : Status) → SumsUp title bytes out out' x → x ≡ Done → PrintsSummary title bytes out.written out'.written
sums_done title bytes out out' x (passed counts rows p t) e = record { counts = counts; rows = rows; passes = p; printed = printed_whole Done (summary_line title counts rows) out out' x t e done_plain }
sums_done title bytes out out' x (warned o warnings w t) e = absurd (warnings_not_done (printed_done Warnings _ out out' x t e))
sums_done title bytes out out' x (stopped s h t) e = absurd (concluded_not_done s out out' x t e)

pub sums_warned : (title bytes : List ℕ) (out out' : Output) (x : Status) → SumsUp title bytes out out' x → x ≡ Warnings → PrintsWarningsOf bytes out.written out'.written
sums_warned title bytes out out' x (passed counts rows p t) e = absurd (done_no_warnings (printed_warnings Done _ out out' x t e))
sums_warned title bytes out out' x (warned o warnings w t) e = record { object = o; warnings = warnings; warns = w; printed = printed_whole Warnings (warnings_text o warnings) out out' x t e warnings_plain }
sums_warned title bytes out out' x (stopped s h t) e = absurd (concluded_no_warnings s out out' x t e)

refusal_told : (told : Refusal) (bytes : List ℕ) (out out' : Output) (x : Status) → IsUncheckable no_options.map bytes built_in told → Concludes (stop.Refused told) out out' x → x ≡ Refused → PrintsRefusal bytes out.written out'.written
refusal_told told bytes out out' x h (tells other t) e = record { refusal = told; uncheckable = h; printed = printed_whole Refused (line_of (stop.Refused told)) out out' x t e refused_plain }
refusal_told told bytes out out' NoMemory h (silent is same) e = absurd (refused_plain.memory (sym e))

no_refusal : (out out' : Output) (x : Status) → Concludes stop.NoMemory out out' x → x ≢ Refused
no_refusal out out' x t e = refused_plain.memory (sym e ∙ concluded_no_memory out out' x t)

stop_refused : (s : CommandStop) (bytes : List ℕ) (out out' : Output) (x : Status) → IsUncheckableStop no_options.map bytes built_in s → Concludes s out out' x → x ≡ Refused → PrintsRefusal bytes out.written out'.written
stop_refused (stop.Refused told) bytes out out' x h t e = refusal_told told bytes out out' x h t e
stop_refused stop.NoMemory bytes out out' x h t e = absurd (no_refusal out out' x t e)
stop_refused (stop.Usage usage) bytes out out' x h t e = absurd h
stop_refused (stop.PartMissing part file) bytes out out' x h t e = absurd h
stop_refused (stop.PartTooLong part file limit) bytes out out' x h t e = absurd h
stop_refused (stop.PartRefused part refusal) bytes out out' x h t e = absurd h
stop_refused (stop.Missing file) bytes out out' x h t e = absurd h
stop_refused (stop.TooLong file limit) bytes out out' x h t e = absurd h
stop_refused (stop.FileFault file) bytes out out' x h t e = absurd h

pub sums_refused : (title bytes : List ℕ) (out out' : Output) (x : Status) → SumsUp title bytes out out' x → x ≡ Refused → PrintsRefusal bytes out.written out'.written
sums_refused title bytes out out' x (passed counts rows p t) e = absurd (done_not_refused (printed_as Done Refused _ out out' x t e refused_plain))
sums_refused title bytes out out' x (warned o warnings w t) e = absurd (warnings_not_refused (printed_as Warnings Refused _ out out' x t e refused_plain))
sums_refused title bytes out out' x (stopped s h t) e = stop_refused s bytes out out' x h t e
