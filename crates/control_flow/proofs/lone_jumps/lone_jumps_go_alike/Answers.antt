use Rattle.control_flow.proofs.Alike.{go_alike}
use Rattle.control_flow.proofs.lone_jumps.lone_jumps_go_alike.Goals as goal

pub returns : goal.returns
returns c = go_alike
