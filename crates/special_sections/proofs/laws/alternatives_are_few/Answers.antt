use Rattle.special_sections.proofs.Few.{alternatives_few}
use Rattle.special_sections.proofs.laws.alternatives_are_few.Goals as goal

pub returns : goal.returns
returns c = alternatives_few
