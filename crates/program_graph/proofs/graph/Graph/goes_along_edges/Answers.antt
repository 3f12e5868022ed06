-- The usual one is what a point names that has its number.
use Rattle.std.proofs.Common.{arith, IsTrue, nat_eq}
use Rattle.program_graph.specs.declared.parts.PointKind.{PointKind}
use Rattle.program_graph.specs.declared.usual.TheConstants.{USUAL_TRANSFER}
use Rattle.program_graph.proofs.Named.{stands_so}
use Rattle.program_graph.proofs.graph.Graph.goes_along_edges.Goals as goal

pub returns-clause-role : goal.returns-clause-role
returns-clause-role c same p tells =
    let k : PointKind = c.kind.result.now in
    let graph = c.args.self.now in
    let at = stands_so graph.parts.transfers.items k.transfer graph.usual_transfer USUAL_TRANSFER (graph.shape.transfers c.args.n k c.kind.ensures.own) (let is : IsTrue (nat_eq k.transfer graph.usual_transfer) = same in grind arith) graph.transfer in
    ((c.kind.ensures.told p tells).transfer USUAL_TRANSFER at).role

pub returns-clause-marks : goal.returns-clause-marks
returns-clause-marks c same p tells =
    let k : PointKind = c.kind.result.now in
    let graph = c.args.self.now in
    let at = stands_so graph.parts.transfers.items k.transfer graph.usual_transfer USUAL_TRANSFER (graph.shape.transfers c.args.n k c.kind.ensures.own) (let is : IsTrue (nat_eq k.transfer graph.usual_transfer) = same in grind arith) graph.transfer in
    ((c.kind.ensures.told p tells).transfer USUAL_TRANSFER at).marks
