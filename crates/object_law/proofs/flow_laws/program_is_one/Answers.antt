use Rattle.object_law.proofs.Whole as whole
use Rattle.object_law.proofs.flow_laws.program_is_one.Goals as goal

pub returns : goal.returns
returns c = whole.program_is_one
