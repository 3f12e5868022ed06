use Rattle.object_law.proofs.Enters.{enters_sites}
use Rattle.object_law.proofs.object_laws.program_enters_sites.Goals as goal

pub returns : goal.returns
returns c = enters_sites
