use Rattle.command_base.proofs.PrintLemmas.{nothing_sent}
use Rattle.command_base.proofs.unwinding.print_frame.Goals as goal

pub returns-in-Err-clause-err : goal.returns-in-Err-clause-err
returns-in-Err-clause-err g c = nothing_sent _ _
