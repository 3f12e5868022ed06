-- How a command prints its text, and which status it ends with.
use Rattle.std.specs.Prelude.{◌≡◌, ◌≢◌, ◌⊎◌, ℕ, List, Result, Ok, Err}
use Rattle.ot_files.specs.Causes.{Rose}
use Rattle.ot_files.specs.Output.{AppendsPrefix, appending}
use Rattle.ot_files.specs.declared.output.SinkError.{SinkError}
use Rattle.ot_files.specs.declared.output.SinkError.TheVariants as sink
use Rattle.command_base.specs.declared.status.Status.{Status}
use Rattle.command_base.specs.declared.status.Status.TheVariants.{Done, Warnings, Refused, Usage, FileFault, SinkFault, NoMemory}
use Rattle.command_base.specs.declared.stop.CommandStop.{CommandStop}
use Rattle.command_base.specs.declared.stop.CommandStop.TheVariants as stop
use Rattle.command_base.specs.Stop.{line_of, status_of}
use Rattle.command_base.specs.Outside.{Output}

-- This text was to be printed, and then the command to end with the status `end`.
pub data Prints (end : Status) (text : List ℕ) (before after : Output) : Status → Type 0 where
  -- It was printed whole, and the command ends so.
  whole : {s : Status} → s ≡ end → after.written ≡ appending before.written text → Prints end text before after s
  -- Writing it failed behind a beginning of it. It is the line of a file's fault, which stays the answer.
  fault_stays :
      AppendsPrefix before.written after.written text
      → Rose before.faults after.faults
      → end ≡ FileFault
      → Prints end text before after FileFault
  -- Writing it failed behind a beginning of it, and is answered in place of any other status.
  fails :
      AppendsPrefix before.written after.written text
      → Rose before.faults after.faults
      → end ≢ FileFault
      → Prints end text before after SinkFault
  -- Memory ran out behind a beginning of it.
  runs_out : AppendsPrefix before.written after.written text → Prints end text before after NoMemory

-- A part of a longer text was to be printed: writing it failed, or memory ran out, and a beginning of it was printed.
abbrev pub FailsToPrint : List ℕ → Output → Output → Status → Type 0
FailsToPrint part before after SinkFault = AppendsPrefix before.written after.written part × Rose before.faults after.faults
FailsToPrint part before after NoMemory = AppendsPrefix before.written after.written part
FailsToPrint part before after Done = ⊥
FailsToPrint part before after Warnings = ⊥
FailsToPrint part before after Refused = ⊥
FailsToPrint part before after Usage = ⊥
FailsToPrint part before after FileFault = ⊥

-- what is answered where writing to the output failed: that it did; or the fault of a file whose line was being written
abbrev pub IsOutputFault : Status → Type 0
IsOutputFault s = (s ≡ SinkFault) ⊎ (s ≡ FileFault)

-- the status of a command whose text was written so
abbrev pub ended : {U : Type 0} → Status → Result U SinkError → Status
ended s (Ok _) = s
ended s (Err sink.NoMemory) = NoMemory
ended FileFault (Err sink.Failed) = FileFault
ended s (Err sink.Failed) = SinkFault

-- The line of a stop was printed; or the stop is want of memory, of which nothing is told.
pub data Concludes (why : CommandStop) (before after : Output) : Status → Type 0 where
  tells : {s : Status} → why ≢ stop.NoMemory → Prints (status_of why) (line_of why) before after s → Concludes why before after s
  silent : why ≡ stop.NoMemory → after ≡ before → Concludes why before after NoMemory
