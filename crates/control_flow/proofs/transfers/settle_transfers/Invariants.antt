use Rattle.control_flow.specs.Listed.{count_of}
use Rattle.control_flow.specs.Numbers.{HaveNumbers}
use Rattle.control_flow.proofs.Settling.{IsSettled}
use Rattle.control_flow.proofs.transfers.settle_transfers.Given as goal

abbrev pub invariant-loop-k : goal.invariant-loop-k
invariant-loop-k l = HaveNumbers (IsSettled l.points l.returns l.k) l.transfers.items l.numbers.items (count_of l.points)
