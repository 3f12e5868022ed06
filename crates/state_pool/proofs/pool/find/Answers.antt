-- A key is found exactly where its state is there.
use Rattle.state_pool.proofs.Keys.{absent, at_position}
use Rattle.state_pool.proofs.pool.find.Goals as goal

pub returns-in-Some : goal.returns-in-Some
returns-in-Some c = at_position _ _ _ c.in-Some.ensures.index

pub returns-in-None : goal.returns-in-None
returns-in-None c = absent _ _ c.in-None.ensures.found
