use Rattle.machine_defs.proofs.WorkedAccess as worked
use Rattle.machine_defs.proofs.checking_laws.worked_access.Goals as goal

pub returns : goal.returns
returns c = worked.warns_where_asked
