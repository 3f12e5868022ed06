use Rattle.option_law.proofs.Access.{law_from}
use Rattle.option_law.proofs.laws.access_is_kept.Goals as goal

pub returns : goal.returns
returns c = law_from c.unwinding_law.ensures
