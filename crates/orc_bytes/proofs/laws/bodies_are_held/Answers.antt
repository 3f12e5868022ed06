use Rattle.orc_bytes.proofs.Held.{bodies_held}
use Rattle.orc_bytes.proofs.laws.bodies_are_held.Goals as goal

pub returns : goal.returns
returns c = bodies_held
