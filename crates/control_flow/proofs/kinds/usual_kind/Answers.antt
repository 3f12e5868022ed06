use Rattle.std.proofs.Common.{refl}
use Rattle.control_flow.specs.Kinds.{usual_kind}
use Rattle.control_flow.proofs.kinds.usual_kind.Goals as goal

pub returns : goal.returns
unfolding usual_kind
returns c = refl
