use Rattle.machine_defs.proofs.KeptLemmas as kept
use Rattle.machine_defs.proofs.checking_laws.kept_is_one.Goals as goal

pub returns : goal.returns
returns c = kept.kept_is_one
