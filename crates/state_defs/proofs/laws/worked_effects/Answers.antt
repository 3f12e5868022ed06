use Rattle.state_defs.proofs.WorkedEffects as worked
use Rattle.state_defs.proofs.laws.worked_effects.Goals as goal

pub returns : goal.returns
returns c = worked.effects
