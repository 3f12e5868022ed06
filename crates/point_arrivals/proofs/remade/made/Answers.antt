use Rattle.std.proofs.Common.{rules}
use Rattle.flow_defs.specs.Arrival.{around}
use Rattle.point_arrivals.proofs.remade.made.Goals as goal

pub returns-in_default : goal.returns-in_default
unfolding around
returns-in_default c = search rules
