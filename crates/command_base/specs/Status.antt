-- The exit status of the program.
use Rattle.std.specs.Prelude.{ℕ}
use Rattle.command_base.specs.declared.status.Status.{Status}
use Rattle.command_base.specs.declared.status.Status.TheVariants.{Done, Warnings, Refused, Usage, FileFault, SinkFault, NoMemory}

abbrev pub exit_code : Status → ℕ
exit_code Done = 0
exit_code Warnings = 1
exit_code Refused = 2
exit_code Usage = 3
exit_code FileFault = 4
exit_code SinkFault = 5
exit_code NoMemory = 6
