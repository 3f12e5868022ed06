use Rattle.machine_defs.proofs.WorkedHoles.{leaves_holes}
use Rattle.machine_defs.proofs.checking_laws.worked_holes.Goals as goal

pub returns : goal.returns
returns c = leaves_holes
