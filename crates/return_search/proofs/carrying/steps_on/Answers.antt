-- The first edge is one of the point where the edges of the next point begin behind it.
use Rattle.std.proofs.Common.{◌≡◌, ◌<◌, length, sym, ap, ◌∙◌, arith}
use Rattle.std.proofs.lemmas.List.{get_or_read}
use Rattle.machine_defs.specs.declared.flow.Edge.{Edge}
use Rattle.machine_defs.specs.declared.flow.EdgeKind.TheVariants.{Next}
use Rattle.machine_defs.specs.Program.{edge}
use Rattle.return_search.specs.Backward.{edge_at}
use Rattle.return_search.proofs.Ranges.{ends_within}
use Rattle.return_search.proofs.carrying.steps_on.Goals as goal

pub index-requires : goal.index-requires
index-requires c =
    let flow = c.args.flow.now in
    let q = c.args.q in
    omega (arith, c.start-first.ensures, c.start.ensures, c.if-first-start.false, c.requires.shape.ascending q c.requires.point, ends_within flow c.requires.shape q c.requires.point)

pub returns : goal.returns
returns c = λ h.
    let flow = c.args.flow.now in
    let q = c.args.q in
    let first = c.start-first.result in
    let ascending = c.requires.shape.ascending q c.requires.point in
    let inside : first < length flow.edges.items = omega (arith, c.start-first.ensures, c.start.ensures, c.if-first-start.false, ascending, ends_within flow c.requires.shape q c.requires.point) in
    let to : (c.index.result).now ≡ edge_at flow first = get_or_read flow.edges.items first (c.index.result).now inside c.index.ensures (edge 0 Next) in
    record {
      edge = first;
      of = record { point = c.requires.point; from = omega (arith, c.start-first.ensures); to = omega (arith, c.start-first.ensures, c.start.ensures, c.if-first-start.false, ascending) };
      behind = ap (λ (e : Edge). e.to) (sym to) ∙ c.if-index-behind.false;
      passes = c.passes_on.ensures h;
    }
