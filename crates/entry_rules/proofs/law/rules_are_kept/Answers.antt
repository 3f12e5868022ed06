use Rattle.entry_rules.proofs.Kept.{entry_law}
use Rattle.entry_rules.proofs.law.rules_are_kept.Goals as goal

pub returns : goal.returns
returns c = entry_law
