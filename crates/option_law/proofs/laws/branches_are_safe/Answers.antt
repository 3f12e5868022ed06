use Rattle.option_law.proofs.Branches.{law_from}
use Rattle.option_law.proofs.laws.branches_are_safe.Goals as goal

pub returns : goal.returns
returns c = law_from c.unwinding_law.ensures
