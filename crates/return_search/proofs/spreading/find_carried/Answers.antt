-- The point is found where a return is carried to it.
use Rattle.return_search.proofs.Walks.{Finds, finds_carried}
use Rattle.return_search.proofs.spreading.find_carried.Goals as goal

pub returns-then-is_carried_to-clause-more : goal.returns-then-is_carried_to-clause-more
returns-then-is_carried_to-clause-more c =
    let flow = c.args.flow.now in
    let s = c.args.search.now in
    let t = c.find.new.self in
    let q = c.args.q in
    let by = c.is_carried_to.ensures.carried c.if-is_carried_to.true in
    let finds : Finds flow s t q = record { listed = c.find.ensures.listed; extends = c.find.ensures.extends; found = c.find.ensures.found; known = c.find.ensures.known } in
    finds_carried flow c.requires.shape s t c.requires.sound q finds by.0 (by.1, by.2, by.3)
