use Rattle.object_law.proofs.Levels.{levels_are_enough}
use Rattle.object_law.proofs.flow_laws.returning.Goals as goal

pub returns : goal.returns
returns c = levels_are_enough
