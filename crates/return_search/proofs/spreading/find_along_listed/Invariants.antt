use Rattle.return_search.proofs.SearchSteps.{left}
use Rattle.return_search.proofs.Walks.{AlongFound}
use Rattle.return_search.proofs.spreading.find_along_listed.Given as goal

abbrev pub invariant-leads : goal.invariant-leads
invariant-leads l = AlongFound l.flow l.backward.leads.items l.fn.search l.search l.x l.next

abbrev pub decreases-leads : goal.decreases-leads
decreases-leads l = left l.next
