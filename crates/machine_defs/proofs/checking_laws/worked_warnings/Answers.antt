use Rattle.machine_defs.proofs.WorkedWarnings as worked
use Rattle.machine_defs.proofs.checking_laws.worked_warnings.Goals as goal

pub returns : goal.returns
returns c = worked.warns
