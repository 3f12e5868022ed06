use Rattle.machine_defs.proofs.WorkedWays.{leads_on}
use Rattle.machine_defs.proofs.machine_laws.worked_ways.Goals as goal

pub returns : goal.returns
returns c = leads_on
