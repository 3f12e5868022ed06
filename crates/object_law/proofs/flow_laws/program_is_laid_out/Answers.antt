use Rattle.object_law.proofs.LaidOut as whole
use Rattle.object_law.proofs.flow_laws.program_is_laid_out.Goals as goal

pub returns : goal.returns
returns c = whole.laid_out
