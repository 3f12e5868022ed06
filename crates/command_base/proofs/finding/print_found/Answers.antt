use Rattle.std.proofs.Common.{refl}
use Rattle.command_base.proofs.PrintLemmas.{nothing_printed}
use Rattle.command_base.proofs.finding.print_found.Goals as goal

pub returns-in-Err-clause-printed : goal.returns-in-Err-clause-printed
returns-in-Err-clause-printed g c = nothing_printed _ _ _ _ refl
