-- All edges of the point are listed.
use Rattle.std.proofs.Common.{◌≡◌, ◌≤◌, ◌+◌, subst, arith}
use Rattle.std.proofs.lemmas.List.{get_or_read}
use Rattle.return_search.specs.Told.{start_of}
use Rattle.return_search.specs.Backward.{IsBackwardTo}
use Rattle.return_search.proofs.backward.Backward.add_point.Goals as goal

pub returns-clause-one_more : goal.returns-clause-one_more
returns-clause-one_more c =
    let flow = c.args.flow.now in
    let starts = flow.starts.items in
    let q = c.args.q in
    let shape = c.requires.shape in
    let from : (c.index-number.result).now ≡ start_of flow q = get_or_read starts q (c.index-number.result).now (omega (arith, c.requires.point, shape.starts)) c.index-number.ensures 0 in
    let to : (c.index-number-end.result).now ≡ start_of flow (q + 1) = get_or_read starts (q + 1) (c.index-number-end.result).now (omega (arith, c.requires.point, shape.starts)) c.index-number-end.ensures 0 in
    let ordered : (c.index-number.result).now ≤ (c.index-number-end.result).now = omega (arith, from, to, shape.ascending q c.requires.point) in
    let end : c.edges.number ≡ start_of flow (q + 1) = omega (arith, from, to, c.edges.auto.number-end ordered) in
    subst (IsBackwardTo flow c.edges.self (q + 1)) end c.edges.invariant
