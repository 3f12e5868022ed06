use Rattle.machine_defs.proofs.WorkedLoose.{loses_stack}
use Rattle.machine_defs.proofs.machine_laws.worked_loose.Goals as goal

pub returns : goal.returns
returns c = loses_stack
