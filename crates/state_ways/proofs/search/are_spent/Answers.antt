-- One edge more.
use Rattle.std.proofs.Common.{IsSome, arith}
use Rattle.machine_defs.specs.declared.flow.Edge.{Edge}
use Rattle.machine_defs.specs.declared.flow.EdgeKind.TheVariants.{Next}
use Rattle.kept_states.specs.LevelStates.{at}
use Rattle.state_ways.specs.Marks.{IsMarked}
use Rattle.state_ways.proofs.Edges.{all_have, all_more}
use Rattle.state_ways.proofs.search.are_spent.Goals as goal

pub loop-edge-preserved : goal.loop-edge-preserved
loop-edge-preserved c =
    all_more (λ (e : Edge). IsSome (at c.args.kept.now e.to) → IsMarked c.args.ways.now e.to) c.args.edges.now c.loop-edge.edge-index (record { to = 0; kind = Next }) c.loop-edge-test.true
    (c.is_spent.ensures (let h = c.if-not-is_spent.false in grind arith)) c.loop-edge.invariant

pub returns : goal.returns
returns c = λ yes. all_have (λ (e : Edge). IsSome (at c.args.kept.now e.to) → IsMarked c.args.ways.now e.to) c.args.edges.now c.loop-edge.edge-index c.loop-edge-test.false c.loop-edge.invariant
