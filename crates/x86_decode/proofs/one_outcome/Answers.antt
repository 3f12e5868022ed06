use Rattle.x86_decode.proofs.Decided.{exclusive}
use Rattle.x86_decode.proofs.one_outcome.Goals as goal

pub returns : goal.returns
returns c = exclusive
