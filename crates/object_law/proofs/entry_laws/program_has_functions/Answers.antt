use Rattle.object_law.proofs.Functions as functions
use Rattle.object_law.proofs.entry_laws.program_has_functions.Goals as goal

pub returns : goal.returns
returns c = functions.has_functions
