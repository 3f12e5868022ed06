-- What the status that a command ends with says of why it stopped.
use Rattle.std.proofs.Common.{◌≡◌, ℕ, List, refl, sym, ◌∙◌, subst, inl, inr}
use Rattle.std.specs.Prelude.{◌≢◌, ◌⊎◌}
use Rattle.ot_files.specs.Causes.{Rose}
use Rattle.command_base.specs.declared.status.Status.{Status}
use Rattle.command_base.specs.declared.status.Status.TheVariants.{Done, Warnings, FileFault, SinkFault, NoMemory}
use Rattle.command_base.specs.declared.stop.CommandStop.{CommandStop}
use Rattle.command_base.specs.declared.stop.CommandStop.TheVariants as stop
use Rattle.command_base.specs.Outside.{Output}
use Rattle.command_base.specs.Printing.{Concludes, Prints, fails, fault_stays, runs_out, silent, tells, whole}
use Rattle.command_base.specs.Stop.{line_of, status_of}

-- the status is the one that was wanted, or it says that writing failed or that memory ran out
pub printed_fault : (end : Status) (text : List ℕ) (before after : Output) (x : Status) → Prints end text before after x → x ≡ FileFault → end ≡ FileFault
printed_fault end text before after x (whole at all) e = sym at ∙ e
printed_fault end text before after FileFault (fault_stays prefix rose at) e = at
printed_fault end text before after SinkFault (fails prefix rose other) e = cc
printed_fault end text before after NoMemory (runs_out prefix) e = cc

pub printed_sink_fault : (end : Status) (text : List ℕ) (before after : Output) (x : Status) → Prints end text before after x → end ≢ SinkFault → x ≡ SinkFault → Rose before.faults after.faults
printed_sink_fault end text before after x (whole at all) none e = absurd (none (sym at ∙ e))
printed_sink_fault end text before after FileFault (fault_stays prefix rose at) none e = rose
printed_sink_fault end text before after SinkFault (fails prefix rose other) none e = rose
printed_sink_fault end text before after NoMemory (runs_out prefix) none e = cc

pub printed_done : (end : Status) (text : List ℕ) (before after : Output) (x : Status) → Prints end text before after x → x ≡ Done → end ≡ Done
printed_done end text before after x (whole at all) e = sym at ∙ e
printed_done end text before after FileFault (fault_stays prefix rose at) e = cc
printed_done end text before after SinkFault (fails prefix rose other) e = cc
printed_done end text before after NoMemory (runs_out prefix) e = cc

pub printed_warnings : (end : Status) (text : List ℕ) (before after : Output) (x : Status) → Prints end text before after x → x ≡ Warnings → end ≡ Warnings
printed_warnings end text before after x (whole at all) e = sym at ∙ e
printed_warnings end text before after FileFault (fault_stays prefix rose at) e = cc
printed_warnings end text before after SinkFault (fails prefix rose other) e = cc
printed_warnings end text before after NoMemory (runs_out prefix) e = cc

-- where the end is a file's fault, that stays or memory ran out
pub printed_after_fault : (text : List ℕ) (before after : Output) (x : Status) → Prints FileFault text before after x → (x ≡ FileFault) ⊎ (x ≡ NoMemory)
printed_after_fault text before after x (whole at all) = inl at
printed_after_fault text before after FileFault (fault_stays prefix rose at) = inl refl
printed_after_fault text before after SinkFault (fails prefix rose other) = absurd (other refl)
printed_after_fault text before after NoMemory (runs_out prefix) = inr refl

-- the statuses that no stop has
stop_not_done : (s : CommandStop) → status_of s ≢ Done
stop_not_done (stop.Usage usage) e = cc
stop_not_done (stop.PartMissing part file) e = cc
stop_not_done (stop.PartTooLong part file limit) e = cc
stop_not_done (stop.PartRefused part refusal) e = cc
stop_not_done (stop.Missing file) e = cc
stop_not_done (stop.TooLong file limit) e = cc
stop_not_done (stop.Refused refusal) e = cc
stop_not_done (stop.FileFault file) e = cc
stop_not_done stop.NoMemory e = cc

stop_no_warnings : (s : CommandStop) → status_of s ≢ Warnings
stop_no_warnings (stop.Usage usage) e = cc
stop_no_warnings (stop.PartMissing part file) e = cc
stop_no_warnings (stop.PartTooLong part file limit) e = cc
stop_no_warnings (stop.PartRefused part refusal) e = cc
stop_no_warnings (stop.Missing file) e = cc
stop_no_warnings (stop.TooLong file limit) e = cc
stop_no_warnings (stop.Refused refusal) e = cc
stop_no_warnings (stop.FileFault file) e = cc
stop_no_warnings stop.NoMemory e = cc

stop_no_sink_fault : (s : CommandStop) → status_of s ≢ SinkFault
stop_no_sink_fault (stop.Usage usage) e = cc
stop_no_sink_fault (stop.PartMissing part file) e = cc
stop_no_sink_fault (stop.PartTooLong part file limit) e = cc
stop_no_sink_fault (stop.PartRefused part refusal) e = cc
stop_no_sink_fault (stop.Missing file) e = cc
stop_no_sink_fault (stop.TooLong file limit) e = cc
stop_no_sink_fault (stop.Refused refusal) e = cc
stop_no_sink_fault (stop.FileFault file) e = cc
stop_no_sink_fault stop.NoMemory e = cc

-- the same of a stop that was told
pub concluded_fault : (s : CommandStop) (before after : Output) (x : Status) → Concludes s before after x → x ≡ FileFault → status_of s ≡ FileFault
concluded_fault s before after x (tells other t) e = printed_fault _ _ before after x t e
concluded_fault s before after NoMemory (silent none same) e = cc

pub concluded_sink_fault : (s : CommandStop) (before after : Output) (x : Status) → Concludes s before after x → x ≡ SinkFault → Rose before.faults after.faults
concluded_sink_fault s before after x (tells other t) e = printed_sink_fault _ _ before after x t (stop_no_sink_fault s) e
concluded_sink_fault s before after NoMemory (silent none same) e = cc

pub concluded_not_done : (s : CommandStop) (before after : Output) (x : Status) → Concludes s before after x → x ≢ Done
concluded_not_done s before after x (tells other t) e = stop_not_done s (printed_done _ _ before after x t e)
concluded_not_done s before after NoMemory (silent none same) e = cc

pub concluded_no_warnings : (s : CommandStop) (before after : Output) (x : Status) → Concludes s before after x → x ≢ Warnings
concluded_no_warnings s before after x (tells other t) e = stop_no_warnings s (printed_warnings _ _ before after x t e)
concluded_no_warnings s before after NoMemory (silent none same) e = cc

-- what is left where a file's fault or want of memory is told
pub concluded_after_fault : (file : CommandStop) (before after : Output) (x : Status) → status_of file ≡ FileFault → Concludes file before after x → (x ≡ FileFault) ⊎ (x ≡ NoMemory)
concluded_after_fault s before after x at (tells other t) = printed_after_fault _ before after x (subst (λ (end : Status). Prints end (line_of s) before after x) at t)
concluded_after_fault s before after NoMemory at (silent none same) = inr refl

pub concluded_no_memory : (before after : Output) (x : Status) → Concludes stop.NoMemory before after x → x ≡ NoMemory
concluded_no_memory before after x (tells other t) = absurd (other refl)
concluded_no_memory before after NoMemory (silent none same) = refl
