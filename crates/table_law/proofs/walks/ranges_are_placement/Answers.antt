use Rattle.table_law.proofs.PlacedTables as placed
use Rattle.table_law.proofs.walks.ranges_are_placement.Goals as goal

pub returns : goal.returns
returns c = placed.ranges_are_placement
