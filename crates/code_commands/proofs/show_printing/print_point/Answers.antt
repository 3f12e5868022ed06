use Rattle.command_base.proofs.PrintLemmas.{nothing_sent}
use Rattle.code_commands.proofs.show_printing.print_point.Goals as goal

pub returns-in-Err-clause-err : goal.returns-in-Err-clause-err
returns-in-Err-clause-err g c p tells = nothing_sent _ _
