-- A key whose state isn't there goes last.
use Rattle.state_pool.proofs.Keys.{at_end}
use Rattle.state_pool.proofs.pool.push.Goals as goal

pub returns-clause-states : goal.returns-clause-states
returns-clause-states c = at_end _ _ _ c.requires.new c.in-Ok.ensures.keys
