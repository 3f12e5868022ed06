-- The transfer that a point names is there, and tells the point's.
use Rattle.std.proofs.Common.{◌≡◌, Some, length, arith, refl, slice_get}
use Rattle.std.proofs.lemmas.Option.{slice_get_read}
use Rattle.program_graph.specs.declared.parts.PointKind.{PointKind}
use Rattle.program_graph.proofs.graph.Graph.transfer.Goals as goal

pub returns : goal.returns
returns c p t =
    let k : PointKind = c.kind.result.now in
    let all = c.args.self.now.parts.transfers.items in
    let inside = c.args.self.now.shape.transfers c.args.n k c.kind.ensures.own in
    let at : slice_get all k.transfer ≡ Some c.index.result.now = slice_get_read all (length all) k.transfer c.index.result.now refl inside c.index.ensures in
    (c.kind.ensures.told p t).transfer c.index.result.now at

pub index-requires : goal.index-requires
index-requires c = let inside = c.args.self.now.shape.transfers c.args.n c.kind.result.now c.kind.ensures.own in omega (arith, inside, c.args.self.now.parts.transfers.ok)
