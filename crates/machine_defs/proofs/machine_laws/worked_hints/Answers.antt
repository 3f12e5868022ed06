use Rattle.machine_defs.proofs.WorkedHints as worked
use Rattle.machine_defs.proofs.machine_laws.worked_hints.Goals as goal

pub returns : goal.returns
returns c = worked.runs
