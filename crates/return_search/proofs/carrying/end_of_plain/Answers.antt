-- The first edge of a point that has one.
use Rattle.std.proofs.Common.{◌≡◌, ◌<◌, ◌+◌, ℕ, List, get_or, length, sym, ap, subst, arith}
use Rattle.machine_defs.specs.declared.flow.Edge.{Edge}
use Rattle.return_search.specs.Told.{start_of}
use Rattle.return_search.specs.Shape.{points_of}
use Rattle.return_search.proofs.Ranges.{ends_within}
use Rattle.return_search.proofs.carrying.end_of_plain.Goals as goal

pub bounds-edges-first : goal.bounds-edges-first
bounds-edges-first c =
    let flow = c.args.flow.now in
    let shape = c.requires.shape in
    let q : ℕ = c.plain.q in
    let inside : q < points_of flow = omega (arith, c.plain-test.true, c.deref-exits.ensures.len) in
    let read : get_or c.deref-starts.result.now (q + 1) 0 ≡ start_of flow (q + 1) = ap (λ (ss : List ℕ). get_or ss (q + 1) 0) c.deref-starts.ensures.value in
    let first : c.plain.first < length flow.edges.items = omega (arith, c.if-starts-q.true, read, c.plain.invariant.first, ends_within flow shape q inside, shape.ascending q inside, shape.few_edges) in
    subst (λ (es : List Edge). c.plain.first < length es) (sym c.deref-edges.ensures.value) first
