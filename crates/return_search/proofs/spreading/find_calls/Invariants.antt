use Rattle.return_search.proofs.SearchSteps.{left}
use Rattle.return_search.proofs.Walks.{CallsFound}
use Rattle.return_search.proofs.spreading.find_calls.Given as goal

abbrev pub invariant-leads : goal.invariant-leads
invariant-leads l = CallsFound l.flow l.backward.leads.items l.fn.search l.search l.entry l.next

abbrev pub decreases-leads : goal.decreases-leads
decreases-leads l = left l.next
