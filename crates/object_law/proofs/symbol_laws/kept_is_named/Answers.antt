use Rattle.object_law.proofs.KeptNamed.{kept_named}
use Rattle.object_law.proofs.symbol_laws.kept_is_named.Goals as goal

pub returns : goal.returns
returns c = kept_named
