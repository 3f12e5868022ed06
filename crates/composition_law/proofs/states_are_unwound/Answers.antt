use Rattle.composition_law.proofs.UnwindLaw as law
use Rattle.composition_law.proofs.states_are_unwound.Goals as goal

pub returns : goal.returns
returns c = law.placed_law
