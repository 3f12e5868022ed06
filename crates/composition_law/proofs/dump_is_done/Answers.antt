use Rattle.composition_law.proofs.DoneLaw as law
use Rattle.composition_law.proofs.dump_is_done.Goals as goal

pub returns : goal.returns
returns c = law.dump_law
