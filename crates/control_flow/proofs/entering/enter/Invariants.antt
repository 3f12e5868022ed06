use Rattle.control_flow.proofs.Listing.{IsListedFor}
use Rattle.control_flow.proofs.entering.enter.Given as goal

abbrev pub invariant-loop-q : goal.invariant-loop-q
invariant-loop-q l = IsListedFor l.fn.entered.items l.entered.items l.stands l.entry l.q-index
