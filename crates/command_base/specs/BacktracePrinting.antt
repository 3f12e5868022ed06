-- How backtraces are printed.
use Rattle.std.specs.Prelude.{◌≡◌, ℕ, List, Option}
use Rattle.ot_base.specs.declared.warning.Warning.{Warning}
use Rattle.elf_objects.specs.Elf.{Elf}
use Rattle.state_defs.specs.declared.state.State.{State}
use Rattle.machine_defs.specs.Program.{Program}
use Rattle.command_base.specs.declared.status.Status.{Status}
use Rattle.command_base.specs.declared.status.Status.TheVariants as status
use Rattle.command_base.specs.Outside.{Output}
use Rattle.command_base.specs.Printing.{Prints}
use Rattle.command_base.specs.BacktraceText.{AreBacktraced}

-- The lines of warnings, each with a backtrace behind it, were to be printed, and then the command to end with the status of
-- warnings; or memory ran out before any was.
pub data PrintsBacktraces (o : Elf) (input : List ℕ) (p : Program) (states : ℕ → Option State) (warnings : List Warning) (before after : Output) : Status → Type 0 where
  tells : {s : Status} (text : List ℕ) → AreBacktraced o input p states warnings text → Prints status.Warnings text before after s → PrintsBacktraces o input p states warnings before after s
  silent : after ≡ before → PrintsBacktraces o input p states warnings before after status.NoMemory
