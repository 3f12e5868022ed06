-- Where it comes there it is found.
use Rattle.program_check.proofs.Finding.{finds_goes_on, finds_search}
use Rattle.program_check.proofs.access_search.Search.find_if.Goals as goal

pub returns-in_ok-find-clause-goes_on : goal.returns-in_ok-find-clause-goes_on
returns-in_ok-find-clause-goes_on c = finds_goes_on c.args.self.now c.find.new.self c.args.visit c.in_ok-find.ensures _ c.requires.point c.requires.shape

pub returns-in_ok-find-clause-search : goal.returns-in_ok-find-clause-search
returns-in_ok-find-clause-search c p allowed front reached search = finds_search c.args.self.now c.find.new.self c.args.visit c.in_ok-find.ensures p allowed front (reached c.if-comes.true) search
