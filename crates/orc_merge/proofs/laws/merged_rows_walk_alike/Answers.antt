use Rattle.orc_merge.proofs.WalkLemmas.{walks_alike, walk_begins}
use Rattle.orc_merge.proofs.laws.merged_rows_walk_alike.Goals as goal

pub returns-clause-within : goal.returns-clause-within
returns-clause-within c = walks_alike

pub returns-clause-front : goal.returns-clause-front
returns-clause-front c = walk_begins
