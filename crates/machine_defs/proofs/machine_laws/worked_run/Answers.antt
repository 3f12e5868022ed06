use Rattle.machine_defs.proofs.WorkedRun as worked
use Rattle.machine_defs.proofs.machine_laws.worked_run.Goals as goal

pub returns : goal.returns
returns c = worked.runs
