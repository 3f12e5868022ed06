use Rattle.control_flow.specs.Entering.{AreListedTo}
use Rattle.control_flow.proofs.entering.list_entered.Given as goal

abbrev pub invariant-loop-k : goal.invariant-loop-k
invariant-loop-k l = AreListedTo l.points l.starts.items l.entered.items l.k
