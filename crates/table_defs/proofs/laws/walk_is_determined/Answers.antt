use Rattle.table_defs.proofs.WalkLaws.{walk_determined}
use Rattle.table_defs.proofs.laws.walk_is_determined.Goals as goal

pub returns : goal.returns
returns c = walk_determined
