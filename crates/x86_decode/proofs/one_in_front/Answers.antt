use Rattle.x86_decode.proofs.Emulating.{one_in_front-holds}
use Rattle.x86_decode.proofs.one_in_front.Goals as goal

pub returns : goal.returns
returns c = one_in_front-holds
