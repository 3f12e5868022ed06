use Rattle.site_lists.proofs.Held.{bodies_held}
use Rattle.site_lists.proofs.laws.bodies_are_held.Goals as goal

pub returns : goal.returns
returns c = bodies_held
