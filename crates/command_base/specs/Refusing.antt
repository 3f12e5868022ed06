-- What is told of a command that a step refuses, and what is answered of it.
use Rattle.std.specs.Prelude.{◌≡◌, ◌⊎◌, ℕ, List, Option}
use Rattle.ot_files.specs.Output.{appending}
use Rattle.command_base.specs.Stop.{line_of}
use Rattle.command_base.specs.declared.status.Status.{Status}
use Rattle.command_base.specs.declared.status.Status.TheVariants as status
use Rattle.command_base.specs.declared.stop.CommandStop.{CommandStop}

-- a step refuses so, and exactly the line that says why was printed
pub record Tells (refuses : CommandStop → Type 0) (before after : Option (List ℕ)) : Type 0 where
  pub stop : CommandStop
  pub is : refuses stop
  pub printed : after ≡ appending before (line_of stop)

-- what is answered of a command that a step refuses: that, unless a file or the output fails or memory runs out
abbrev pub IsRefusedOrFails : Status → Type 0
IsRefusedOrFails s = (s ≡ status.Refused) ⊎ ((s ≡ status.FileFault) ⊎ ((s ≡ status.SinkFault) ⊎ (s ≡ status.NoMemory)))

-- the same of one whose input breaks rules
abbrev pub IsWarnedOrFails : Status → Type 0
IsWarnedOrFails s = (s ≡ status.Warnings) ⊎ ((s ≡ status.FileFault) ⊎ ((s ≡ status.SinkFault) ⊎ (s ≡ status.NoMemory)))
