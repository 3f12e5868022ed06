use Rattle.table_law.proofs.Walk as walk
use Rattle.table_law.proofs.walks.walk_law.Goals as goal

pub returns : goal.returns
returns c = walk.walk_law c.unwinding_law.ensures c.move_is_consistent.ensures c.ranges_are_placement.ensures
