use Rattle.composition_law.proofs.DumpLaw as law
use Rattle.composition_law.proofs.dump_tells_the_rows.Goals as goal

pub returns : goal.returns
returns c = law.dump_law
