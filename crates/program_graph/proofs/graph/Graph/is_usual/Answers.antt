-- The usual one is what a point names that has its number.
use Rattle.std.proofs.Common.{arith, IsTrue, nat_eq, refl}
use Rattle.program_graph.specs.declared.parts.PointKind.{PointKind}
use Rattle.program_graph.specs.declared.usual.TheConstants.{USUAL_RARE}
use Rattle.program_graph.proofs.Named.{stands_so}
use Rattle.program_graph.proofs.graph.Graph.is_usual.Goals as goal

pub returns-clause-hint : goal.returns-clause-hint
returns-clause-hint c same p tells =
    let k : PointKind = c.kind.result.now in
    let graph = c.args.self.now in
    let at = stands_so graph.parts.rares.items k.rare graph.usual_rare USUAL_RARE (graph.shape.rares c.args.n k c.kind.ensures.own) (let is : IsTrue (nat_eq k.rare graph.usual_rare) = same in grind arith) graph.rare in
    (((c.kind.ensures.told p tells).rare USUAL_RARE at).unhinted refl).hint

pub returns-clause-meant : goal.returns-clause-meant
returns-clause-meant c same p tells =
    let k : PointKind = c.kind.result.now in
    let graph = c.args.self.now in
    let at = stands_so graph.parts.rares.items k.rare graph.usual_rare USUAL_RARE (graph.shape.rares c.args.n k c.kind.ensures.own) (let is : IsTrue (nat_eq k.rare graph.usual_rare) = same in grind arith) graph.rare in
    (((c.kind.ensures.told p tells).rare USUAL_RARE at).unhinted refl).restores

pub returns-clause-variant : goal.returns-clause-variant
returns-clause-variant c same p tells =
    let k : PointKind = c.kind.result.now in
    let graph = c.args.self.now in
    let at = stands_so graph.parts.rares.items k.rare graph.usual_rare USUAL_RARE (graph.shape.rares c.args.n k c.kind.ensures.own) (let is : IsTrue (nat_eq k.rare graph.usual_rare) = same in grind arith) graph.rare in
    ((c.kind.ensures.told p tells).rare USUAL_RARE at).variant

pub returns-clause-address : goal.returns-clause-address
returns-clause-address c same p tells =
    let k : PointKind = c.kind.result.now in
    let graph = c.args.self.now in
    let at = stands_so graph.parts.rares.items k.rare graph.usual_rare USUAL_RARE (graph.shape.rares c.args.n k c.kind.ensures.own) (let is : IsTrue (nat_eq k.rare graph.usual_rare) = same in grind arith) graph.rare in
    ((c.kind.ensures.told p tells).rare USUAL_RARE at).address
