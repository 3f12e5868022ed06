use Rattle.composition_law.proofs.ReadLaws as law
use Rattle.composition_law.proofs.cfa_is_done.Goals as goal

pub returns : goal.returns
returns c = law.cfa_law
