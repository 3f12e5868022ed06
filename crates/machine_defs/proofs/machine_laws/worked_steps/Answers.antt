use Rattle.machine_defs.proofs.WorkedSteps as worked
use Rattle.machine_defs.proofs.machine_laws.worked_steps.Goals as goal

pub returns : goal.returns
returns c = worked.takes_each
