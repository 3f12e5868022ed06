use Rattle.composition_law.proofs.DoneLaw as law
use Rattle.composition_law.proofs.unwind_is_done.Goals as goal

pub returns : goal.returns
returns c = law.unwind_law c.walk_is_determined.ensures c.memory_is_said.ensures
