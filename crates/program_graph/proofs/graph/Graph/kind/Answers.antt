-- The kind that a point names is there, and tells what the point has.
use Rattle.std.proofs.Common.{◌≡◌, Some, length, refl, slice_get}
use Rattle.std.proofs.lemmas.Option.{slice_get_read}
use Rattle.program_graph.specs.declared.parts.GraphPoint.{GraphPoint}
use Rattle.program_graph.proofs.graph.Graph.kind.Goals as goal

pub returns-clause-told : goal.returns-clause-told
returns-clause-told c p t =
    let x : GraphPoint = c.point.result.now in
    let all = c.args.self.now.parts.kinds.items in
    let inside = c.args.self.now.shape.kinds c.args.n x c.point.ensures in
    let at : slice_get all x.kind ≡ Some c.index.result.now = slice_get_read all (length all) x.kind c.index.result.now refl inside c.index.ensures in
    (t.points c.args.n x c.point.ensures).kind c.index.result.now at

pub returns-clause-own : goal.returns-clause-own
returns-clause-own c =
    let x : GraphPoint = c.point.result.now in
    let all = c.args.self.now.parts.kinds.items in
    let inside = c.args.self.now.shape.kinds c.args.n x c.point.ensures in
    record { point = x; at = c.point.ensures; named = slice_get_read all (length all) x.kind c.index.result.now refl inside c.index.ensures }
