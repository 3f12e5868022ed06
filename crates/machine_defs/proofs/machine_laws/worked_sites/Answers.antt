use Rattle.machine_defs.proofs.WorkedSites.{hints_sites}
use Rattle.machine_defs.proofs.machine_laws.worked_sites.Goals as goal

pub returns : goal.returns
returns c = hints_sites
