use Rattle.x86_decode.proofs.Fronts.{one_spelling-holds}
use Rattle.x86_decode.proofs.one_spelling.Goals as goal

pub returns : goal.returns
returns c = one_spelling-holds
