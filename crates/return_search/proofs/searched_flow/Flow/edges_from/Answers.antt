-- The edges of a point end in the list of edges.
use Rattle.std.proofs.Common.{arith, rules}
use Rattle.return_search.proofs.Ranges.{ends_within}
use Rattle.return_search.proofs.searched_flow.Flow.edges_from.Goals as goal

pub offset_bounds-deref-from : goal.offset_bounds-deref-from
offset_bounds-deref-from c = omega (arith, c.requires.shape.ascending c.args.q c.requires.point, ends_within c.args.self.now c.requires.shape c.args.q c.requires.point, c.requires.shape.few_edges)

pub slice_bounds-result-end : goal.slice_bounds-result-end
slice_bounds-result-end c =
    let within = ends_within c.args.self.now c.requires.shape c.args.q c.requires.point in
    search (rules, within)
