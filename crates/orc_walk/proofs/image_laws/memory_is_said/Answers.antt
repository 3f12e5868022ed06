use Rattle.orc_walk.proofs.ByteLemmas.{memory_is_said}
use Rattle.orc_walk.proofs.image_laws.memory_is_said.Goals as goal

pub returns : goal.returns
returns c = memory_is_said
