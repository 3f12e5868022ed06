use Rattle.control_flow.proofs.Settling.{is_without_back}
use Rattle.control_flow.proofs.transfers.without_back.Goals as goal

pub returns : goal.returns
returns c = λ o q is. is_without_back o q c.args.transfer is
