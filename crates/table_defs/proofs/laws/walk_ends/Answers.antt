use Rattle.table_defs.proofs.WalkLaws.{walk_ends}
use Rattle.table_defs.proofs.laws.walk_ends.Goals as goal

pub returns : goal.returns
returns c = walk_ends
