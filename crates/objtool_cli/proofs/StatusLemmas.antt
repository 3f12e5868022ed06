-- Statuses that are not one another.
use Rattle.std.proofs.Common.{◌≡◌}
use Rattle.std.specs.Prelude.{◌≢◌}
use Rattle.command_base.specs.declared.status.Status.{Status}
use Rattle.command_base.specs.declared.status.Status.TheVariants.{Done, Warnings, FileFault, SinkFault}
use Rattle.command_base.specs.declared.status.Status.TheVariants as status
use Rattle.command_base.specs.declared.stop.CommandStop.{CommandStop}
use Rattle.command_base.specs.declared.stop.CommandStop.TheVariants as stop
use Rattle.command_base.specs.Outside.{Output}
use Rattle.command_base.specs.Printing.{Concludes}
use Rattle.command_base.specs.Stop.{status_of}
use Rattle.command_base.proofs.ConcludeLemmas.{concluded_not_done}
use Rattle.command_base.specs.declared.usage.Usage as declared

pub no_usage_fault : (usage : declared.Usage) → status_of (stop.Usage usage) ≢ FileFault
no_usage_fault usage e = cc

pub no_memory_fault : status_of stop.NoMemory ≢ FileFault
no_memory_fault e = cc

pub done_no_fault : status.Done ≢ FileFault
done_no_fault e = cc

pub done_no_sink_fault : status.Done ≢ SinkFault
done_no_sink_fault e = cc

pub warnings_no_sink_fault : status.Warnings ≢ SinkFault
warnings_no_sink_fault e = cc

pub warnings_not_done : status.Warnings ≢ Done
warnings_not_done e = cc

pub done_no_warnings : status.Done ≢ Warnings
done_no_warnings e = cc

-- a stop that is told is no command that is done
pub unless_told : (s : CommandStop) (out out' : Output) (x : Status) → Concludes s out out' x → x ≡ Done → ⊥
unless_told s out out' x t e = concluded_not_done s out out' x t e
