use Rattle.machine_defs.proofs.WorkedWrecks as worked
use Rattle.machine_defs.proofs.machine_laws.worked_wrecks.Goals as goal

pub returns : goal.returns
returns c = worked.wrecks_each_way
