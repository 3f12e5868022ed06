use Rattle.object_law.proofs.Ascend.{points_ascend}
use Rattle.object_law.proofs.object_laws.plain_points_ascend.Goals as goal

pub returns : goal.returns
returns c = points_ascend
