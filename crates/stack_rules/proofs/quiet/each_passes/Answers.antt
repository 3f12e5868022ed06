-- One edge more.
use Rattle.std.proofs.Common.{sym, arith}
use Rattle.std.proofs.lemmas.List.{take_all}
use Rattle.std.proofs.lemmas.List.Elements.{All-more, All-same}
use Rattle.machine_defs.specs.declared.flow.Edge.{Edge}
use Rattle.machine_defs.specs.declared.flow.EdgeKind.TheVariants.{Next}
use Rattle.stack_rules.specs.Quiet.{Passes}
use Rattle.stack_rules.proofs.quiet.each_passes.Goals as goal

pub loop-edge-preserved : goal.loop-edge-preserved
loop-edge-preserved c p tells =
    let none : Edge = record { to = 0; kind = Next } in
    All-more (Passes p c.args.kept.now c.args.n) c.args.edges.now c.loop-edge.edge-index none c.loop-edge-test.true (c.loop-edge.invariant p tells)
    (c.passes.ensures (let passes = c.if-not-passes.false in grind arith) p tells)

pub returns : goal.returns
returns c _ p tells =
    All-same (Passes p c.args.kept.now c.args.n) _ _ (sym (take_all c.loop-edge.edge-index c.args.edges.now c.loop-edge-test.false)) (c.loop-edge.invariant p tells)
